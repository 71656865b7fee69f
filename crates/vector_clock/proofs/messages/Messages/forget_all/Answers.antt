use Rattle.std.proofs.Common.{◌≡◌, ℕ, ◌-◌, ◌<◌, length, take, ap, ◌∙◌, subst, arith}
use Rattle.std.proofs.lemmas.List.{length-set}
use Rattle.event_log.specs.States.{with_batch}
use Rattle.vector_clock.specs.Admitted.{HasMessages}
use Rattle.vector_clock.proofs.Counting.{is_last, one_fits, no_batch}
use Rattle.vector_clock.proofs.messages.Messages.forget_all.Goals as goal

pub loop-i-preserved : goal.loop-i-preserved
loop-i-preserved c =
    let fits = one_fits _ c.args.batch.now (c.loop-i.i - 1) c.index-batch-i.result c.requires (omega (arith, c.loop-i-test.true, c.loop-i.auto.i)) c.index-batch-i.is in
    let lt : c.index-batch-i.result.process < length c.loop-i.taken.items = omega (arith, fits.clock.process, c.loop-i.invariant.count) in
    record {
      count = length-set c.loop-i.taken.items c.index-batch-i.result.process _ ∙ c.loop-i.invariant.count;
      has = λ events h t.
          let inv = c.loop-i.invariant.has events h t in
          let last = is_last events c.args.batch.now c.loop-i.taken.items c.loop-i.i c.index-batch-i.result c.index-place.result.now c.saturating_sub.result (omega (arith, c.loop-i-test.true)) c.loop-i.auto.i c.index-batch-i.is lt inv.1
          c.index-place.ensures c.saturating_sub.ensures in
          (c.forget.ensures (with_batch events (take (c.loop-i.i - 1) c.args.batch.now)) (subst (HasMessages c.loop-i.self) last.next inv.0) last.there last.place_is, last.without);
    }

pub returns : goal.returns
returns c = λ events h t.
    let none : c.loop-i.i ≡ 0 = omega (arith, c.loop-i-test.false) in
    subst (HasMessages c.loop-i.self) (ap (λ (k : ℕ). with_batch events (take k c.args.batch.now)) none ∙ no_batch events c.args.batch.now) (c.loop-i.invariant.has events h t).0
