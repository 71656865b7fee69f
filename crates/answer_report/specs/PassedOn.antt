-- What those above read by this crate of the ones below it.
pub use Rattle.run_report.specs.Reports.{Asked, IsReportOn, IsReportOf}
