use Rattle.std.proofs.Common.{List, ℕ, ◌∙◌, subst}
use Rattle.greatest_reach.specs.inside.Flow.{AreMarked, IsUnderway}
use Rattle.greatest_reach.proofs.Flows.{top_there, readers_there, row_is, spread_on, grown_on}
use Rattle.greatest_reach.proofs.reach.spread.Goals as goal

pub bounds-readers-node : goal.bounds-readers-node
bounds-readers-node c =
    top_there c.args.readers.now c.args.value c.in-Some.node c.loop-node.values _ c.requires.some
    (subst (IsUnderway c.args.readers.now c.args.value c.loop-node.values) c.in-Some.ensures.items c.loop-node.invariant.underway)

pub mark_all-requires-clause-there : goal.mark_all-requires-clause-there
mark_all-requires-clause-there c =
    let under = subst (IsUnderway c.args.readers.now c.args.value c.loop-node.values) c.in-Some.ensures.items c.loop-node.invariant.underway in
    readers_there c.args.readers.now c.args.value c.in-Some.node c.loop-node.values _ c.as_slice.result.now c.requires.some under c.requires.graph
    (c.as_slice.ensures ∙ c.index-readers-node.is ∙ row_is c.args.readers.now c.args.value c.in-Some.node c.loop-node.values _ _ c.requires.some under)

pub loop-node-preserved : goal.loop-node-preserved
loop-node-preserved c =
    let under = subst (IsUnderway c.args.readers.now c.args.value c.loop-node.values) c.in-Some.ensures.items c.loop-node.invariant.underway in
    let row = c.as_slice.ensures ∙ c.index-readers-node.is ∙ row_is c.args.readers.now c.args.value c.in-Some.node c.loop-node.values _ _ c.requires.some under in
    let m = subst (λ (xs : List ℕ). AreMarked xs c.args.value c.loop-node.values c.mark_all.new.values c.pop.new.self.items c.mark_all.new.stack.items) row c.in_ok-mark_all.ensures in
    record {
      underway = spread_on c.args.readers.now c.args.value c.in-Some.node _ _ _ _ c.requires.some under m;
      grown = grown_on c.args.readers.now c.args.value c.in-Some.node _ _ _ _ _ c.requires.some under m c.loop-node.invariant.grown;
    }
