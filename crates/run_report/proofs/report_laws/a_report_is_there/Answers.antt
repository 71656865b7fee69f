use Rattle.run_report.proofs.ReportThere.{report_there}
use Rattle.run_report.proofs.report_laws.a_report_is_there.Goals as goal

pub returns : goal.returns
returns c = report_there
