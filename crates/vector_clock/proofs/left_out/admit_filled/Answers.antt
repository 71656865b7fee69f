use Rattle.std.proofs.Common.{◌≡◌, ◌∙◌, ap, sym, subst, List}
use Rattle.std.specs.Prelude.{None}
use Rattle.event_log.specs.declared.log.Event.{Event}
use Rattle.event_log.specs.States.{with_batch}
use Rattle.vector_clock.specs.Faults.{batch_fault}
use Rattle.vector_clock.specs.Filled.{filled_batch}
use Rattle.vector_clock.specs.Admitted.{HasAdmitted}
use Rattle.vector_clock.proofs.Admitting.{on_ok, if_fault, filled_may_be_admitted}
use Rattle.vector_clock.proofs.FilledBatches.{none_left}
use Rattle.vector_clock.proofs.left_out.admit_filled.Goals as goal

pub returns-then-are_written-clause-ok : goal.returns-then-are_written-clause-ok
returns-then-are_written-clause-ok c = on_ok c.admit.result (λ admits events has.
    let filled : filled_batch events c.args.batch.now ≡ c.args.batch.now = none_left (with_batch events c.args.batch.now) events c.args.batch.now (c.are_written.ensures c.if-are_written.true) in
    subst (λ (b : List Event). (batch_fault events b ≡ None) × HasAdmitted c.admit.new.self (with_batch events b)) (sym filled) (admits events has)) c.admit.ensures.ok

pub returns-then-are_written-clause-fault : goal.returns-then-are_written-clause-fault
returns-then-are_written-clause-fault c = if_fault c.admit.result (λ fault refuses events has.
    ap (batch_fault events) (none_left (with_batch events c.args.batch.now) events c.args.batch.now (c.are_written.ensures c.if-are_written.true)) ∙ refuses events has) c.admit.ensures.fault

pub admit-requires-2 : goal.admit-requires-2
admit-requires-2 c =
    filled_may_be_admitted c.args.clocks.now c.requires.admitted.0 c.args.batch.now c.as_slice.result.now c.requires.admitted.1 c.requires.stands
    (c.as_slice.ensures ∙ c.in_ok-batch.ensures c.requires.admitted.0 c.requires.admitted.1)
