use Rattle.pull_system.proofs.Existence.{minimum_closed, maximum_closed}
use Rattle.pull_system.proofs.laws.closed_vectors.Goals as goal

pub returns-clause-minimum : goal.returns-clause-minimum
returns-clause-minimum c = minimum_closed

pub returns-clause-maximum : goal.returns-clause-maximum
returns-clause-maximum c = maximum_closed
