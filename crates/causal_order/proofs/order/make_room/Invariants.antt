use Rattle.std.proofs.Common.{◌≡◌}
use Rattle.causal_order.proofs.order.make_room.Given as goal

abbrev pub invariant-loop-p : goal.invariant-loop-p
invariant-loop-p l = l.table ≡ l.fn.table
