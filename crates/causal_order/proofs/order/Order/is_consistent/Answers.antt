use Rattle.std.proofs.Common.{length, arith, ap}
use Rattle.causal_order.proofs.Growing.{length-lengths}
use Rattle.causal_order.proofs.Orders.{holds, all_last}
use Rattle.causal_order.proofs.order.Order.is_consistent.Goals as goal

pub get-position-requires : goal.get-position-requires
get-position-requires c =
    omega (arith, c.requires, c.loop-process-test.true, c.procs-procs.ensures.count, ap length c.self.invariant.lens, length-lengths c.self.inside.table, ap length c.self.view_is)

pub returns : goal.returns
returns c =
    holds (all_last c.args.self.now c.args.cut.now c.loop-process.process c.requires c.loop-process.invariant
    (omega (arith, c.loop-process-test.false, c.procs-procs.ensures.count, ap length c.self.invariant.lens, length-lengths c.self.inside.table, ap length c.self.view_is)))
