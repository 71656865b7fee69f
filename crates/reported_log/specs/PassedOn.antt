-- What those above read by this crate of the ones below it.
pub use Rattle.log_check.specs.Checked.{IsCheckedLog, observed_alone}
pub use Rattle.log_check.specs.declared.checked.CheckedLog.{CheckedLog}
