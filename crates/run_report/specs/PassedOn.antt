-- What those above read by this crate of the ones below it.
pub use Rattle.report.specs.Spelling.{report_text}
pub use Rattle.report.specs.declared.report.Report.{Report}
