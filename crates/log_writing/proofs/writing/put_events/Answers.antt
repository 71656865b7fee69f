use Rattle.event_log.specs.LogText.{event_lines, text_of}
use Rattle.event_log.proofs.Appends.{events_append, puts_next}
use Rattle.log_writing.proofs.writing.put_events.Goals as goal

pub loop-event-preserved : goal.loop-event-preserved
loop-event-preserved c = puts_next (λ xs. text_of (event_lines c.args.header.now xs)) (events_append c.args.header.now) c.args.out.now c.loop-event.out c.put_event.new.out c.args.events.now c.loop-event.event-index c.event-item.result c.loop-event-test.true c.event-item.is c.loop-event.invariant c.in_ok-put_event.ensures
