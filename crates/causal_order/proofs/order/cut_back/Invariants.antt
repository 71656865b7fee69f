use Rattle.causal_order.proofs.Growing.{CutBelow}
use Rattle.causal_order.proofs.order.cut_back.Given as goal

abbrev pub invariant-loop-process : goal.invariant-loop-process
invariant-loop-process l = CutBelow l.shape l.fn.table l.process l.table
