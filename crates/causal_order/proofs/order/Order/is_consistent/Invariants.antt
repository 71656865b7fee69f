use Rattle.std.proofs.Common.{ℕ, ◌<◌}
use Rattle.causal_order.proofs.Orders.{HasLast}
use Rattle.causal_order.proofs.order.Order.is_consistent.Given as goal

abbrev pub invariant-loop-process : goal.invariant-loop-process
invariant-loop-process l = (k : ℕ) → k < l.process → HasLast l.self l.cut k
