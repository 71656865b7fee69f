use Rattle.kept_runs.proofs.Traces.{number_kept, value_kept}
use Rattle.kept_runs.proofs.values_are_kept.Goals as goal

pub returns-clause-numbers : goal.returns-clause-numbers
returns-clause-numbers c = number_kept

pub returns-clause-values : goal.returns-clause-values
returns-clause-values c = value_kept
