use Rattle.std.proofs.Common.{arith}
use Rattle.event_log.proofs.EventCounts.{counts_none, counts_more, count_few}
use Rattle.event_log.proofs.counting.count_events.Goals as goal

pub loop-event-init : goal.loop-event-init
loop-event-init c = counts_none c.args.events.now

pub overflow_add-counts : goal.overflow_add-counts
overflow_add-counts c = omega (arith, count_few c.args.events.now c.loop-event.event-index c.event-item.result.process c.loop-event.counts c.loop-event.invariant, c.requires.few)

pub loop-event-preserved : goal.loop-event-preserved
loop-event-preserved c = counts_more c.args.events.now c.loop-event.event-index c.event-item.result c.loop-event.counts c.loop-event.invariant c.loop-event-test.true c.event-item.is
