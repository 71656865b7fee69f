use Rattle.std.proofs.Common.{◌≡◌, take}
use Rattle.std.specs.List.{filter}
use Rattle.view_picture.specs.Shown.{is_shown}
use Rattle.view_picture.proofs.ties.shown_events.Given as goal

abbrev pub invariant-loop-event : goal.invariant-loop-event
invariant-loop-event l = l.shown ≡ filter (is_shown l.columns) (take l.event-index l.events)
