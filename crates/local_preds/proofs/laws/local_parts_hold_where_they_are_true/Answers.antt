use Rattle.local_preds.proofs.Meaning.{local_means, constant_means}
use Rattle.local_preds.proofs.laws.local_parts_hold_where_they_are_true.Goals as goal

pub returns-clause-local : goal.returns-clause-local
returns-clause-local c = local_means

pub returns-clause-constant : goal.returns-clause-constant
returns-clause-constant c = constant_means
