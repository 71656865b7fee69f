use Rattle.run_report.proofs.Numbers.{same_but_for_number}
use Rattle.run_report.proofs.report_laws.reports_go_by_the_run.Goals as goal

pub returns : goal.returns
returns c = same_but_for_number
