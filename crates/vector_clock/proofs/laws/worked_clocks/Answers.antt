use Rattle.std.proofs.Common.{refl}
use Rattle.event_log.specs.States.{with_batch}
use Rattle.run_model.specs.Cut.{lengths}
use Rattle.run_model.specs.Consistent.{clock}
use Rattle.vector_clock.specs.Events.{some_below}
use Rattle.vector_clock.specs.Messages.{first_place}
use Rattle.vector_clock.specs.Faults.{fault_from}
use Rattle.greatest_reach.specs.Back.{reaches, greatest_where}
use Rattle.vector_clock.specs.Filled.{places_on, places_from, counts_from, fill_from}
use Rattle.vector_clock.proofs.laws.worked_clocks.Goals as goal

pub returns-clause-round : goal.returns-clause-round
unfolding with_batch first_place reaches greatest_where places_on places_from counts_from fill_from
returns-clause-round c = refl

pub returns-clause-round_fault : goal.returns-clause-round_fault
unfolding with_batch lengths clock some_below first_place fault_from reaches greatest_where places_on places_from counts_from fill_from
returns-clause-round_fault c = refl

pub returns-clause-back : goal.returns-clause-back
unfolding with_batch first_place reaches greatest_where places_on places_from counts_from fill_from
returns-clause-back c = refl

pub returns-clause-back_fault : goal.returns-clause-back_fault
unfolding with_batch lengths clock some_below first_place fault_from reaches greatest_where places_on places_from counts_from fill_from
returns-clause-back_fault c = refl

pub returns-clause-turned : goal.returns-clause-turned
unfolding with_batch first_place reaches greatest_where places_on places_from counts_from fill_from
returns-clause-turned c = refl
