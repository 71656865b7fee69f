-- What those above read by this crate of the ones below it.
pub use Rattle.reported_log.specs.Aims.{Aim, said_by, Says, unknown_name, rules_of, asked_of}
pub use Rattle.reported_log.specs.Aims.{aim_of, taken_for, AreWatches, names_of, watches_of}
pub use Rattle.reported_log.specs.Aims.{IsTrueSoFar}
pub use Rattle.reported_log.specs.Checking.{IsCheckOf, HasClosed, IsFree, MayFollow}
pub use Rattle.reported_log.specs.PassedOn.{IsCheckedLog, observed_alone, CheckedLog}
pub use Rattle.reported_log.specs.declared.reported.ReportedLog.{ReportedLog}
pub use Rattle.run_report.specs.Reports.{Asked}
