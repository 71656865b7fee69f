use Rattle.run_report.proofs.OneReport.{one_summary}
use Rattle.run_report.proofs.report_laws.one_summary.Goals as goal

pub returns : goal.returns
returns c = one_summary
