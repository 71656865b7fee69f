use Rattle.std.proofs.Common.{◌≡◌, ℕ, ◌+◌, ◌<◌, List, length, take, refl, sym, ap, ◌∙◌, subst, arith}
use Rattle.std.specs.Prelude.{None}
use Rattle.run_model.specs.Cut.{Clocks, lengths}
use Rattle.run_model.specs.Consistent.{IsEvent}
use Rattle.causal_order.specs.Growth.{with_clocks}
use Rattle.causal_order.proofs.Growing.{length-lengths, length-with_clocks}
use Rattle.vector_clock.specs.Events.{EventFits}
use Rattle.vector_clock.specs.Faults.{clock_fault}
use Rattle.vector_clock.specs.Sound.{IsSound}
use Rattle.vector_clock.proofs.Below.{count_is}
use Rattle.vector_clock.proofs.Growth.{fits_have_clocks}
use Rattle.vector_clock.proofs.Counting.{one_fits, few_taken, length-raised}
use Rattle.vector_clock.proofs.Judged.{Judged, Says, lens_clocks, judged_none, placed, judged_fault, judged_next, judged_fault_none, judged_order}
use Rattle.vector_clock.proofs.judging.first_fault.Goals as goal

pub new-requires-clause-each : goal.new-requires-clause-each
new-requires-clause-each c = fits_have_clocks _ c.args.batch.now c.requires.fits.each

pub new-requires-clause-lens : goal.new-requires-clause-lens
new-requires-clause-lens c = c.requires.lens ∙ sym (lens_clocks c.args.order.now c.args.batch.now)

pub loop-event-init : goal.loop-event-init
loop-event-init c = judged_none c.args.order.now (with_clocks c.args.order.now c.args.batch.now) c.args.messages.now c.args.batch.now c.set_counts.new.counts.items refl
    (fits_have_clocks _ c.args.batch.now c.requires.fits.each) c.shape.ensures.order (c.in_ok-set_counts.ensures ∙ c.lens.ensures.lens ∙ c.shape.ensures.lens)

pub index-requires : goal.index-requires
index-requires c =
    let fits = one_fits _ c.args.batch.now c.loop-event.event-index c.event-item.result c.requires.fits.each c.loop-event-test.true c.event-item.is in
    omega (arith, fits.clock.process, ap length c.loop-event.invariant.counts, length-raised (lengths c.args.order.now) (take c.loop-event.event-index c.args.batch.now), length-lengths c.args.order.now)

pub overflow_add-place : goal.overflow_add-place
overflow_add-place c =
    let fits = one_fits _ c.args.batch.now c.loop-event.event-index c.event-item.result c.requires.fits.each c.loop-event-test.true c.event-item.is in
    let there : c.event-item.result.process < length c.loop-event.judged.items =
    omega (arith, fits.clock.process, ap length c.loop-event.invariant.counts, length-raised (lengths c.args.order.now) (take c.loop-event.event-index c.args.batch.now), length-lengths c.args.order.now) in
    let few = few_taken (lengths c.args.order.now) c.loop-event.judged.items c.args.batch.now c.loop-event.event-index c.event-item.result.process c.loop-event.invariant.counts c.requires.fits.few in
    let read = count_is c.loop-event.judged.items c.event-item.result.process c.index.result.now there c.index.ensures in
    grind (arith, few, read)

pub event_fault-requires-clause-fits : goal.event_fault-requires-clause-fits
event_fault-requires-clause-fits c =
    let fits = one_fits _ c.args.batch.now c.loop-event.event-index c.event-item.result c.requires.fits.each c.loop-event-test.true c.event-item.is in
    let count : length c.in_ok-joined.joined ≡ length c.args.order.now = ap length c.in_ok-joined.ensures ∙ length-with_clocks c.args.order.now c.args.batch.now in
    subst (λ (n : ℕ). EventFits n c.event-item.result) (sym count) fits

pub event_fault-requires-clause-place : goal.event_fault-requires-clause-place
event_fault-requires-clause-place c =
    let fits = one_fits _ c.args.batch.now c.loop-event.event-index c.event-item.result c.requires.fits.each c.loop-event-test.true c.event-item.is in
    let at = placed c.args.order.now c.in_ok-joined.joined c.args.messages.now c.args.batch.now c.loop-event.judged.items c.loop-event.event-index c.event-item.result c.index.result.now
    (subst (λ (o : Clocks). Judged c.args.order.now o c.args.messages.now c.args.batch.now c.loop-event.judged.items c.loop-event.event-index) (sym c.in_ok-joined.ensures) c.loop-event.invariant) c.in_ok-joined.ensures
    (fits_have_clocks _ c.args.batch.now c.requires.fits.each) c.loop-event-test.true c.event-item.is fits.clock c.index.ensures in
    at.within

pub event_fault-requires-clause-before : goal.event_fault-requires-clause-before
event_fault-requires-clause-before c =
    let fits = one_fits _ c.args.batch.now c.loop-event.event-index c.event-item.result c.requires.fits.each c.loop-event-test.true c.event-item.is in
    let at = placed c.args.order.now c.in_ok-joined.joined c.args.messages.now c.args.batch.now c.loop-event.judged.items c.loop-event.event-index c.event-item.result c.index.result.now
    (subst (λ (o : Clocks). Judged c.args.order.now o c.args.messages.now c.args.batch.now c.loop-event.judged.items c.loop-event.event-index) (sym c.in_ok-joined.ensures) c.loop-event.invariant) c.in_ok-joined.ensures
    (fits_have_clocks _ c.args.batch.now c.requires.fits.each) c.loop-event-test.true c.event-item.is fits.clock c.index.ensures in
    at.before

pub event_fault-requires-clause-judged : goal.event_fault-requires-clause-judged
event_fault-requires-clause-judged c =
    let counted = c.deref.ensures.value ∙ c.loop-event.invariant.counts ∙ sym (lens_clocks c.args.order.now (take c.loop-event.event-index c.args.batch.now)) in
    record {
      counts = omega (
        arith,
        ap length c.deref.ensures.value,
        ap length c.loop-event.invariant.counts,
        length-raised (lengths c.args.order.now) (take c.loop-event.event-index c.args.batch.now),
        length-lengths c.args.order.now,
        ap length c.in_ok-joined.ensures,
        length-with_clocks c.args.order.now c.args.batch.now,
      );
      sound = λ p a there. subst (λ (o : Clocks). IsSound o p a) (sym c.in_ok-joined.ensures) (c.loop-event.invariant.sound p a (subst (λ (lens : List ℕ). IsEvent lens p a) counted there));
    }

pub index_mut-requires : goal.index_mut-requires
index_mut-requires c =
    let fits = one_fits _ c.args.batch.now c.loop-event.event-index c.event-item.result c.requires.fits.each c.loop-event-test.true c.event-item.is in
    omega (arith, fits.clock.process, ap length c.loop-event.invariant.counts, length-raised (lengths c.args.order.now) (take c.loop-event.event-index c.args.batch.now), length-lengths c.args.order.now)

pub loop-event-preserved : goal.loop-event-preserved
loop-event-preserved c =
    let all = with_clocks c.args.order.now c.args.batch.now in
    let fits = one_fits _ c.args.batch.now c.loop-event.event-index c.event-item.result c.requires.fits.each c.loop-event-test.true c.event-item.is in
    let has = fits_have_clocks _ c.args.batch.now c.requires.fits.each in
    let at = placed c.args.order.now all c.args.messages.now c.args.batch.now c.loop-event.judged.items c.loop-event.event-index c.event-item.result c.index.result.now
    c.loop-event.invariant refl has c.loop-event-test.true c.event-item.is fits.clock c.index.ensures in
    judged_next c.args.order.now all c.args.messages.now c.args.batch.now c.loop-event.judged.items c.loop-event.event-index c.event-item.result c.index.result.now c.event_fault.result c.loop-event.invariant refl has
    c.loop-event-test.true c.event-item.is fits.clock c.index.ensures at
    (subst (λ (o : Clocks). Says o c.args.messages.now c.event-item.result (c.index.result.now + 1) c.event_fault.result) c.in_ok-joined.ensures c.event_fault.ensures.first) c.in_default.is
    (subst (λ (o : Clocks). clock_fault o (c.index.result.now + 1) c.event-item.result ≡ None) c.in_ok-joined.ensures (c.event_fault.ensures.clock c.in_default.is))

pub returns-in-Some-clause-fault : goal.returns-in-Some-clause-fault
returns-in-Some-clause-fault c =
    let all = with_clocks c.args.order.now c.args.batch.now in
    let fits = one_fits _ c.args.batch.now c.loop-event.event-index c.event-item.result c.requires.fits.each c.loop-event-test.true c.event-item.is in
    let has = fits_have_clocks _ c.args.batch.now c.requires.fits.each in
    let at = placed c.args.order.now all c.args.messages.now c.args.batch.now c.loop-event.judged.items c.loop-event.event-index c.event-item.result c.index.result.now
    c.loop-event.invariant refl has c.loop-event-test.true c.event-item.is fits.clock c.index.ensures in
    judged_fault c.args.order.now all c.args.messages.now c.args.batch.now c.loop-event.judged.items c.loop-event.event-index c.event-item.result (c.index.result.now + 1) c.event_fault.result c.in-Some.code c.loop-event.invariant refl
    c.loop-event-test.true c.event-item.is at
    (subst (λ (o : Clocks). Says o c.args.messages.now c.event-item.result (c.index.result.now + 1) c.event_fault.result) c.in_ok-joined.ensures c.event_fault.ensures.first) c.in-Some.is

pub returns-clause-fault : goal.returns-clause-fault
returns-clause-fault c = judged_fault_none _ _ _ _ _ _ c.loop-event.invariant (omega (arith, c.loop-event-test.false))

pub returns-clause-order : goal.returns-clause-order
returns-clause-order c = λ none. judged_order _ _ _ _ _ _ c.loop-event.invariant refl (omega (arith, c.loop-event-test.false))
