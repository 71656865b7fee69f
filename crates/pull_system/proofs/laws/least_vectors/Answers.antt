use Rattle.pull_system.proofs.Existence.{least_exists, least_unique}
use Rattle.pull_system.proofs.laws.least_vectors.Goals as goal

pub returns-clause-exists : goal.returns-clause-exists
returns-clause-exists c = least_exists

pub returns-clause-unique : goal.returns-clause-unique
returns-clause-unique c = least_unique
