use Rattle.run_report.proofs.OneReport.{one_report}
use Rattle.run_report.proofs.report_laws.one_report.Goals as goal

pub returns : goal.returns
returns c = one_report
