use Rattle.std.proofs.Common.{◌≡◌, drop}
use Rattle.log_merge.specs.Sources.{own_event_lines}
use Rattle.log_merge.specs.inside.Sources.{seen_after}
use Rattle.log_merge.proofs.seen.seen_in_events.Given as goal

abbrev pub invariant-loop-event : goal.invariant-loop-event
invariant-loop-event l = seen_after l.seen (own_event_lines (drop l.event-index l.events)) ≡ seen_after l.initial.seen (own_event_lines l.events)
