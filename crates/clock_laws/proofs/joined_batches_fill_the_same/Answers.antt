use Rattle.clock_laws.proofs.OneFilling.{same_filled, no_fault_as_one, same_events}
use Rattle.clock_laws.proofs.joined_batches_fill_the_same.Goals as goal

pub returns-clause-batch : goal.returns-clause-batch
returns-clause-batch c = same_filled

pub returns-clause-fault : goal.returns-clause-fault
returns-clause-fault c = no_fault_as_one

pub returns-clause-events : goal.returns-clause-events
returns-clause-events c = same_events
