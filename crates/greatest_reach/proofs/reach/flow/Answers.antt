use Rattle.std.proofs.Common.{◌≡◌, List, [], ◌∷◌, ℕ, ◌-◌, arith, subst, refl}
use Rattle.greatest_reach.specs.inside.Flow.{AreMarked, IsUnderway}
use Rattle.greatest_reach.proofs.Flows.{start_at, AreSettled, one_settled, are_greatest}
use Rattle.greatest_reach.proofs.reach.flow.Goals as goal

pub loop-i-preserved-in-Continue-branch-2 : goal.loop-i-preserved-in-Continue-branch-2
loop-i-preserved-in-Continue-branch-2 c =
    let start = start_at c.args.starts.now (c.loop-i.i - 1) in
    let m = subst (λ (xs : List ℕ). AreMarked (start.node ∷ []) start.value c.loop-i.values c.mark_all.new.values xs c.mark_all.new.stack.items) c.loop-i.invariant.empty c.in_ok-mark_all.ensures in
    let under = subst (IsUnderway c.args.readers.now start.value c.spread.new.values) c.in_ok-spread.ensures.empty c.in_ok-spread.ensures.underway in
    record {
      settled = one_settled c.args.readers.now c.args.starts.now c.loop-i.i start.value start.node _ _ _ _ c.loop-i-test.true c.loop-i.auto.i c.if-start-gt0.true c.requires.rising refl c.loop-i.invariant.settled m under c.in_ok-spread.ensures.grown;
      empty = c.in_ok-spread.ensures.empty;
    }

pub returns : goal.returns
returns c =
    let done : c.loop-i.i ≡ 0 = omega (arith, c.loop-i-test.false) in
    are_greatest c.args.readers.now c.args.starts.now c.loop-i.values (subst (λ (i : ℕ). AreSettled c.args.readers.now c.args.starts.now i c.loop-i.values) done c.loop-i.invariant.settled)
