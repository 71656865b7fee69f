use Rattle.std.proofs.Common.{◌≡◌, false, take}
use Rattle.std.specs.List.{AllByRecursion}
use Rattle.vector_clock.specs.Filled.{is_left_out}
use Rattle.vector_clock.proofs.left_out.are_written.Given as goal

abbrev pub invariant-loop-event : goal.invariant-loop-event
invariant-loop-event l = AllByRecursion (λ e. is_left_out e ≡ false) (take l.event-index l.batch)
