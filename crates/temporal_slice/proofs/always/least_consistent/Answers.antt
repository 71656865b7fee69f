use Rattle.std.proofs.Common.{length, ap, arith}
use Rattle.run_model.proofs.Counts.{length-lengths}
use Rattle.temporal_slice.proofs.Asked.{closes_none, closes_more}
use Rattle.temporal_slice.proofs.always.least_consistent.Goals as goal

pub loop-process-init : goal.loop-process-init
loop-process-init c = closes_none c.args.order.now c.args.cut.now c.in_ok-least.least c.procs.result c.in_ok-least.ensures
    (omega (arith, c.procs.ensures.count, ap length c.shape-shape.ensures.lens, length-lengths c.args.order.now))

pub join_past-requires-clause-process : goal.join_past-requires-clause-process
join_past-requires-clause-process c =
    omega (arith, c.loop-process-test.true, c.procs-process-end.ensures.count, ap length c.shape-shape.ensures.lens, length-lengths c.args.order.now)

pub loop-process-preserved : goal.loop-process-preserved
loop-process-preserved c = closes_more c.args.order.now c.shape-shape.ensures.order c.args.cut.now c.loop-process.least c.join_past.new.into c.loop-process.process c.get.result
    c.loop-process.invariant c.requires.within c.get.ensures c.join_past.ensures.none c.join_past.ensures.past
