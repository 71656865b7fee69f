use Rattle.std.proofs.Common.{ℕ}
use Rattle.cut_lattice.proofs.Steps.{DoneBelow}
use Rattle.causal_order.proofs.order.Order.past_into.Given as goal

abbrev pub invariant-loop-process : goal.invariant-loop-process
invariant-loop-process l = DoneBelow (λ (x y : ℕ). x) l.clock l.fn.into l.into l.process
