use Rattle.std.proofs.Common.{◌≡◌, ◌<◌, ◌∙◌, ap, sym, subst, arith, length, get_or, sum}
use Rattle.std.specs.Prelude.{ℕ, List, Some}
use Rattle.event_log.specs.declared.log.Event.{Event}
use Rattle.run_model.specs.Cut.{Clocks, lengths}
use Rattle.vector_clock.specs.Events.{Events, BatchStands, no_events}
use Rattle.vector_clock.specs.Faults.{batch_fault, log_fault}
use Rattle.vector_clock.specs.Filled.{filled_batch, filled_log}
use Rattle.vector_clock.specs.Admitted.{HasAdmitted}
use Rattle.vector_clock.proofs.Admitting.{checked_none, next_stands, checked_next, checked_fault, checked_all, other_fault}
use Rattle.vector_clock.proofs.left_out.check.Goals as goal

pub loop-batch-init : goal.loop-batch-init
loop-batch-init c = checked_none c.args.log.now c.in_ok-clocks.clocks c.requires (subst (λ (n : ℕ). HasAdmitted c.in_ok-clocks.clocks (no_events n)) c.len.ensures c.in_ok-clocks.ensures)

pub admit_filled-requires-clause-stands : goal.admit_filled-requires-clause-stands
admit_filled-requires-clause-stands c =
    let lt : c.loop-batch.batch-index < length c.args.log.now.batches = omega (arith, c.loop-batch-test.true, ap length c.as_slice-batch-items.ensures) in
    let at : c.batch-item.result ≡ get_or c.args.log.now.batches c.loop-batch.batch-index c.batch-item.result =
    c.batch-item.is ∙ ap (λ (bs : List (List Event)). get_or bs c.loop-batch.batch-index c.batch-item.result) c.as_slice-batch-items.ensures in
    subst (λ (b : List Event). BatchStands (length c.loop-batch.clocks.order) (sum (lengths c.loop-batch.clocks.order)) b) (sym c.as_slice.ensures)
    (next_stands c.args.log.now c.loop-batch.batch-index c.loop-batch.clocks c.batch-item.result c.requires c.loop-batch.invariant lt at)

pub loop-batch-preserved : goal.loop-batch-preserved
loop-batch-preserved c =
    let lt : c.loop-batch.batch-index < length c.args.log.now.batches = omega (arith, c.loop-batch-test.true, ap length c.as_slice-batch-items.ensures) in
    let at : c.as_slice.result.now ≡ get_or c.args.log.now.batches c.loop-batch.batch-index c.batch-item.result =
    c.as_slice.ensures ∙ c.batch-item.is ∙ ap (λ (bs : List (List Event)). get_or bs c.loop-batch.batch-index c.batch-item.result) c.as_slice-batch-items.ensures in
    checked_next c.args.log.now c.loop-batch.batch-index c.loop-batch.clocks c.admit_filled.new.clocks c.as_slice.result.now c.loop-batch.invariant lt
    (subst (λ (b : List Event). c.as_slice.result.now ≡ get_or c.args.log.now.batches c.loop-batch.batch-index b) (sym c.as_slice.ensures) at) c.in-Ok.ensures.ok

pub returns-in-Err-clause-fault : goal.returns-in-Err-clause-fault
returns-in-Err-clause-fault c =
    let lt : c.loop-batch.batch-index < length c.args.log.now.batches = omega (arith, c.loop-batch-test.true, ap length c.as_slice-batch-items.ensures) in
    let at : c.as_slice.result.now ≡ get_or c.args.log.now.batches c.loop-batch.batch-index c.batch-item.result =
    c.as_slice.ensures ∙ c.batch-item.is ∙ ap (λ (bs : List (List Event)). get_or bs c.loop-batch.batch-index c.batch-item.result) c.as_slice-batch-items.ensures in
    other_fault (Unit {0}) Clocks (λ f. (events : Events) → HasAdmitted c.loop-batch.clocks events → batch_fault events (filled_batch events c.as_slice.result.now) ≡ Some f) (λ f. log_fault (filled_log c.args.log.now) ≡ Some f) c.in-Err.refused (λ f h. checked_fault c.args.log.now c.loop-batch.batch-index c.loop-batch.clocks c.as_slice.result.now f c.loop-batch.invariant lt
    (subst (λ (b : List Event). c.as_slice.result.now ≡ get_or c.args.log.now.batches c.loop-batch.batch-index b) (sym c.as_slice.ensures) at) h) c.in-Err.ensures.fault

pub returns-clause-ok : goal.returns-clause-ok
returns-clause-ok c = checked_all c.args.log.now c.loop-batch.batch-index c.loop-batch.clocks c.into_order.result c.loop-batch.invariant
    (omega (arith, c.loop-batch-test.false, ap length c.as_slice-batch-items.ensures)) c.into_order.ensures

pub admit_filled-requires-clause-admitted : goal.admit_filled-requires-clause-admitted
admit_filled-requires-clause-admitted c = (c.loop-batch.invariant.events, c.loop-batch.invariant.admitted)
