use Rattle.std.proofs.Common.{length, arith, ap}
use Rattle.causal_order.proofs.Growing.{length-lengths}
use Rattle.causal_order.proofs.order.Order.can_take.Goals as goal

pub len_of-requires : goal.len_of-requires
len_of-requires c = omega (arith, c.requires.process, ap length c.self.invariant.lens, length-lengths c.self.inside.table, ap length c.self.view_is)
