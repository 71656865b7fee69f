use Rattle.local_preds.proofs.Growing.{local_grows, never_grows}
use Rattle.local_preds.proofs.laws.local_pulls_grow.Goals as goal

pub returns-clause-local : goal.returns-clause-local
returns-clause-local c = local_grows

pub returns-clause-never : goal.returns-clause-never
returns-clause-never c = never_grows
