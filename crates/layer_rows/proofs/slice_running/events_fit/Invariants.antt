use Rattle.std.proofs.Common.{take}
use Rattle.std.specs.List.{AllByRecursion}
use Rattle.vector_clock.specs.Events.{EventFits}
use Rattle.layer_rows.proofs.slice_running.events_fit.Given as goal

abbrev pub invariant-loop-event : goal.invariant-loop-event
invariant-loop-event l = AllByRecursion (EventFits l.procs) (take l.event-index l.events)
