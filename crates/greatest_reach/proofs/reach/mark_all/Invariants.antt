use Rattle.std.proofs.Common.{take}
use Rattle.greatest_reach.specs.inside.Flow.{AreMarked}
use Rattle.greatest_reach.proofs.reach.mark_all.Given as goal

abbrev pub invariant-loop-node : goal.invariant-loop-node
invariant-loop-node l =
    AreMarked (take l.node-index l.nodes) l.value l.fn.values l.values l.fn.stack.items l.stack.items
