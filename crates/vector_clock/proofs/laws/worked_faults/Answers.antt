use Rattle.std.proofs.Common.{refl}
use Rattle.event_log.specs.States.{with_batch}
use Rattle.run_model.specs.Cut.{lengths}
use Rattle.run_model.specs.Consistent.{clock}
use Rattle.vector_clock.specs.Events.{some_below}
use Rattle.vector_clock.specs.Messages.{first_place}
use Rattle.vector_clock.specs.Faults.{fault_from, batches_fault}
use Rattle.vector_clock.proofs.laws.worked_faults.Goals as goal

pub returns-clause-own : goal.returns-clause-own
unfolding with_batch lengths clock some_below first_place fault_from batches_fault
returns-clause-own c = refl

pub returns-clause-back : goal.returns-clause-back
unfolding with_batch lengths clock some_below first_place fault_from batches_fault
returns-clause-back c = refl

pub returns-clause-dangling : goal.returns-clause-dangling
unfolding with_batch lengths clock some_below first_place fault_from batches_fault
returns-clause-dangling c = refl

pub returns-clause-open_past : goal.returns-clause-open_past
unfolding with_batch lengths clock some_below first_place fault_from batches_fault
returns-clause-open_past c = refl

pub returns-clause-loop_ : goal.returns-clause-loop_
unfolding with_batch lengths clock some_below first_place fault_from batches_fault
returns-clause-loop_ c = refl

pub returns-clause-twice : goal.returns-clause-twice
unfolding with_batch lengths clock some_below first_place fault_from batches_fault
returns-clause-twice c = refl

pub returns-clause-unsent : goal.returns-clause-unsent
unfolding with_batch lengths clock some_below first_place fault_from batches_fault
returns-clause-unsent c = refl

pub returns-clause-early : goal.returns-clause-early
unfolding with_batch lengths clock some_below first_place fault_from batches_fault
returns-clause-early c = refl

pub returns-clause-none : goal.returns-clause-none
unfolding with_batch lengths clock some_below first_place fault_from batches_fault
returns-clause-none c = refl

pub returns-clause-next_batch : goal.returns-clause-next_batch
unfolding with_batch lengths clock some_below first_place fault_from batches_fault
returns-clause-next_batch c = refl
