use Rattle.clock_laws.proofs.Joined.{joined_none, come_as_one}
use Rattle.clock_laws.proofs.batches_may_be_joined.Goals as goal

pub returns-clause-fault : goal.returns-clause-fault
returns-clause-fault c = joined_none

pub returns-clause-events : goal.returns-clause-events
returns-clause-events c = come_as_one
