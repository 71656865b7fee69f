use Rattle.std.proofs.Common.{◌≡◌, false, sym, subst, List}
use Rattle.std.specs.List.{AllByRecursion}
use Rattle.event_log.specs.declared.log.Event.{Event}
use Rattle.event_log.specs.States.{with_batch}
use Rattle.vector_clock.specs.Filled.{is_left_out}
use Rattle.vector_clock.proofs.FilledBatches.{none_left}
use Rattle.vector_clock.proofs.left_out.filled.Goals as goal

pub returns-then-are_written : goal.returns-then-are_written
returns-then-are_written c = λ events has.
    sym (none_left (with_batch events c.args.batch) events c.args.batch
    (subst (λ (b : List Event). AllByRecursion (λ (e : Event). is_left_out e ≡ false) b) c.as_slice.ensures (c.are_written.ensures c.if-are_written.true)))
