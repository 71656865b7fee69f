use Rattle.std.proofs.Common.{length, arith, ap, ◌∙◌, subst}
use Rattle.run_model.specs.Consistent.{IsOrder}
use Rattle.causal_order.proofs.Growing.{length-lengths}
use Rattle.causal_order.proofs.Orders.{all_done, past_of}
use Rattle.causal_order.proofs.order.Order.past_into.Goals as goal

pub bounds-clock-process : goal.bounds-clock-process
bounds-clock-process c = omega (arith, c.clock-clock.ensures.width, c.loop-process-test.true, c.procs-process-end.ensures.count, ap length c.self.invariant.lens, length-lengths c.self.inside.table, ap length c.self.view_is)

pub set-requires : goal.set-requires
set-requires c = omega (arith, c.loop-process.invariant.len, c.requires.width, c.loop-process-test.true, c.procs-process-end.ensures.count, ap length c.self.invariant.lens, length-lengths c.self.inside.table, ap length c.self.view_is)

pub returns : goal.returns
returns c =
    let done = all_done c.clock-clock.result.now c.args.into.now c.loop-process.into c.loop-process.process c.loop-process.invariant (omega (arith, c.requires.width, c.clock-clock.ensures.width))
    (omega (arith, c.clock-clock.ensures.width, c.loop-process-test.false, c.procs-process-end.ensures.count, ap length c.self.invariant.lens, length-lengths c.self.inside.table, ap length c.self.view_is)) in
    record { past = done ∙ c.clock-clock.ensures.clock; least = past_of _ _ _ (subst IsOrder c.self.view_is c.self.invariant.order) c.requires.event (done ∙ c.clock-clock.ensures.clock) }
