use Rattle.std.proofs.Common.{◌≡◌, take}
use Rattle.event_log.proofs.EventCounts.{counts_of}
use Rattle.event_log.proofs.counting.count_events.Given as goal

abbrev pub invariant-loop-event : goal.invariant-loop-event
invariant-loop-event l = l.counts ≡ counts_of (take l.event-index l.events)
