use Rattle.equal_runs.proofs.Reports.{equal_reports, equal_texts}
use Rattle.equal_runs.proofs.equal_runs_have_equal_reports.Goals as goal

pub returns-clause-reports : goal.returns-clause-reports
returns-clause-reports c = equal_reports

pub returns-clause-texts : goal.returns-clause-texts
returns-clause-texts c = equal_texts
