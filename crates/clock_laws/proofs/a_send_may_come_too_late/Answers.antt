use Rattle.std.proofs.Common.{refl}
use Rattle.event_log.specs.States.{with_batch}
use Rattle.run_model.specs.Cut.{lengths}
use Rattle.run_model.specs.Consistent.{clock}
use Rattle.vector_clock.specs.Events.{some_below}
use Rattle.vector_clock.specs.Messages.{first_place}
use Rattle.vector_clock.specs.Faults.{fault_from, batches_fault}
use Rattle.greatest_reach.specs.Back.{reaches, greatest_where}
use Rattle.vector_clock.specs.Filled.{places_on, places_from, counts_from, fill_from, filled_batches}
use Rattle.clock_laws.proofs.a_send_may_come_too_late.Goals as goal

pub returns-clause-fault : goal.returns-clause-fault
unfolding with_batch lengths clock some_below first_place fault_from batches_fault reaches greatest_where places_on places_from counts_from fill_from filled_batches
returns-clause-fault c = refl

pub returns-clause-apart : goal.returns-clause-apart
unfolding with_batch first_place reaches greatest_where places_on places_from counts_from fill_from filled_batches
returns-clause-apart c = refl

pub returns-clause-joined : goal.returns-clause-joined
unfolding with_batch first_place reaches greatest_where places_on places_from counts_from fill_from
returns-clause-joined c = refl
