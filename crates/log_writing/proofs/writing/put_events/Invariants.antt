use Rattle.std.proofs.Common.{◌≡◌, ◌++◌, take}
use Rattle.event_log.specs.LogText.{event_lines, text_of}
use Rattle.log_writing.proofs.writing.put_events.Given as goal

abbrev pub invariant-loop-event : goal.invariant-loop-event
invariant-loop-event l = l.out ≡ l.fn.out ++ text_of (event_lines l.header (take l.event-index l.events))
