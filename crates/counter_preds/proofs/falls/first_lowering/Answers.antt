use Rattle.std.proofs.Common.{◌≡◌, ℤ, int_lt, to_z, take, sym, ap, ◌∙◌, arith, rules, below_more}
use Rattle.std.specs.Int.{w64}
use Rattle.std.specs.Prelude.{FitsSigned}
use Rattle.std.proofs.lemmas.Int.{to_z-of_z}
use Rattle.channel_preds.proofs.Counting.{length-events_at}
use Rattle.counter_preds.specs.Falls.{value_now, behind_batch}
use Rattle.counter_preds.proofs.Lowering.{first_value, value_next, falls_test}
use Rattle.counter_preds.proofs.falls.first_lowering.Goals as goal

pub loop-place-init : goal.loop-place-init
loop-place-init c =
    let size = length-events_at c.args.states.now _ c.args.counter.process _ c.requires.variable.process c.shape.ensures c.len_of-len.ensures.len in
    let fits : FitsSigned w64 c.value-value.result = search rules in
    record {
      value = to_z-of_z w64 c.value-value.result fits ∙ first_value c.args.states.now c.args.counter c.args.batch.now c.len_of-len.result c.value-value.result (sym size) c.value-value.ensures;
      before = λ k lt. absurd (omega arith);
    }

pub returns-then-next-value-clause-falls : goal.returns-then-next-value-clause-falls
returns-then-next-value-clause-falls c = λ there.
    let z = to_z w64 c.loop-place.value-bits in
    let next = c.value_behind-next.result in
    let fits : FitsSigned w64 next = search rules in
    let now : z ≡ value_now (behind_batch c.args.states.now (take c.loop-place.place c.args.batch.now)) c.args.counter = cc in
    let behind = value_next c.args.states.now c.requires.whole c.args.counter c.requires.variable c.args.batch.now c.loop-place.place c.index-batch-place.result there c.index-batch-place.is z next now c.value_behind-next.ensures in
    falls_test c.args.states.now c.args.counter c.args.batch.now c.loop-place.place z next now behind ∙ ap (λ (w : ℤ). int_lt w z) (sym (to_z-of_z w64 next fits)) ∙ c.if-next-value.true

pub loop-place-preserved : goal.loop-place-preserved
loop-place-preserved c =
    let z = to_z w64 c.loop-place.value-bits in
    let next = c.value_behind-next.result in
    let fits : FitsSigned w64 next = search rules in
    let now : z ≡ value_now (behind_batch c.args.states.now (take c.loop-place.place c.args.batch.now)) c.args.counter = cc in
    let behind = value_next c.args.states.now c.requires.whole c.args.counter c.requires.variable c.args.batch.now c.loop-place.place c.index-batch-place.result c.loop-place-test.true c.index-batch-place.is z next now c.value_behind-next.ensures in
    let stays = falls_test c.args.states.now c.args.counter c.args.batch.now c.loop-place.place z next now behind ∙ ap (λ (w : ℤ). int_lt w z) (sym (to_z-of_z w64 next fits)) ∙ c.if-next-value.false in
    record {
      value = to_z-of_z w64 next fits ∙ behind;
      before = below_more _ _ c.loop-place.invariant.before stays;
    }
