use Rattle.equal_runs.proofs.Reports.{equal_runs, text_is_fine}
use Rattle.equal_runs.proofs.equal_logs_have_equal_runs.Goals as goal

pub returns-clause-runs : goal.returns-clause-runs
returns-clause-runs c = equal_runs

pub returns-clause-texts : goal.returns-clause-texts
returns-clause-texts c = text_is_fine
