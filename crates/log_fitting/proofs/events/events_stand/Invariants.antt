use Rattle.std.proofs.Common.{take}
use Rattle.std.specs.List.{AllByRecursion}
use Rattle.vector_clock.specs.Events.{EventStands}
use Rattle.log_fitting.proofs.events.events_stand.Given as goal

abbrev pub invariant-loop-event : goal.invariant-loop-event
invariant-loop-event l = AllByRecursion (EventStands l.procs) (take l.event-index l.events)
