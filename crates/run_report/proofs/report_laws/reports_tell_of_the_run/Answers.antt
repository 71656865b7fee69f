use Rattle.run_report.proofs.Telling.{told_denotes, told_kinds}
use Rattle.run_report.proofs.report_laws.reports_tell_of_the_run.Goals as goal

pub returns-clause-denotes : goal.returns-clause-denotes
returns-clause-denotes c = told_denotes

pub returns-clause-kinds : goal.returns-clause-kinds
returns-clause-kinds c = told_kinds
