use Rattle.std.proofs.Common.{length, get_or, [], arith, ap}
use Rattle.run_model.specs.Cut.{Clocks}
use Rattle.causal_order.proofs.Growing.{length-lengths, count-lengths}
use Rattle.causal_order.proofs.order.Order.clock.Goals as goal

pub clock-requires-clause-process : goal.clock-requires-clause-process
clock-requires-clause-process c = omega (arith, c.requires.process, length-lengths c.args.self.now, ap length c.self.view_is)

pub clock-requires-clause-last : goal.clock-requires-clause-last
clock-requires-clause-last c =
    omega (arith, c.requires.last, count-lengths c.args.self.now c.args.event.process, ap (λ (o : Clocks). length (get_or o c.args.event.process [])) c.self.view_is)
