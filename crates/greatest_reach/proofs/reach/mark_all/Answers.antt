use Rattle.std.proofs.Common.{◌≡◌, ℕ, arith, ap, ◌∙◌}
use Rattle.std.specs.Global.{Vec}
use Rattle.greatest_reach.proofs.Marks.{passed_on, marked_on}
use Rattle.greatest_reach.proofs.reach.mark_all.Goals as goal
use Rattle.greatest_reach.proofs.reach.mark_all.Goals.{then-values-node-eq0+in_ok-push, else-values-node-eq0}

pub loop-node-preserved : goal.loop-node-preserved
loop-node-preserved c = elim c.if-values-node-eq0.branch [
  | then-values-node-eq0+in_ok-push w ↦
      let items : c.if-values-node-eq0.stack.items ≡ _ = ap (λ (v : Vec ℕ). v.items) w.stack-is ∙ w.in_ok-push.ensures.items in
      marked_on c.args.nodes.now c.loop-node.node-index c.args.value _ _ _ _ _ _ c.requires.some c.loop-node-test.true
      (omega (arith, c.requires.there c.loop-node.node-index 0 c.loop-node-test.true, c.loop-node.auto.values)) w.if-values-node-eq0.true w.values-is items c.loop-node.invariant
  | else-values-node-eq0 w ↦
      passed_on c.args.nodes.now c.loop-node.node-index c.args.value _ _ _ _ _ _ c.requires.some c.loop-node-test.true w.if-values-node-eq0.false w.values-is (ap (λ (v : Vec ℕ). v.items) w.stack-is) c.loop-node.invariant
]
