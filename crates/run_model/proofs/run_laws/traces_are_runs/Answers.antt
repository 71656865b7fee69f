use Rattle.run_model.proofs.TraceLemmas.{run_of_order}
use Rattle.run_model.proofs.run_laws.traces_are_runs.Goals as goal

pub returns : goal.returns
returns c = run_of_order
