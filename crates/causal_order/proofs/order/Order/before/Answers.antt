use Rattle.std.proofs.Common.{arith}
use Rattle.causal_order.proofs.Growing.{length-lengths}
use Rattle.causal_order.proofs.order.Order.before.Goals as goal

pub bounds-clock-first : goal.bounds-clock-first
bounds-clock-first c = omega (arith, c.requires.first.process, length-lengths c.args.self.now, c.clock.ensures.width)
