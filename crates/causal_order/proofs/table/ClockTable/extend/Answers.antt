use Rattle.std.proofs.Common.{◌∙◌, ap, arith}
use Rattle.causal_order.specs.Growth.{with_row}
use Rattle.causal_order.proofs.Growing.{so_far_none, so_far_more, event_fits}
use Rattle.causal_order.proofs.table.ClockTable.extend.Goals as goal

pub loop-event-init : goal.loop-event-init
loop-event-init c = so_far_none _ _

pub loop-event-preserved : goal.loop-event-preserved
loop-event-preserved c =
    let fits = event_fits _ _ _ _ c.requires c.loop-event-test.true c.event-item.is in
    so_far_more c.args.self.now c.loop-event.self c.push.new.self c.args.events.now c.loop-event.event-index c.event-item.result c.loop-event.invariant c.loop-event-test.true c.event-item.is
    (omega (arith, fits.process, c.loop-event.invariant.grown.count))
    (c.in_ok-push.ensures.ok ∙ ap (with_row c.loop-event.self c.event-item.result.process) c.as_slice.ensures)
