use Rattle.std.proofs.Common.{take}
use Rattle.std.specs.List.{AllByRecursion}
use Rattle.event_log.specs.States.{IsKnown}
use Rattle.log_fitting.proofs.header.are_known.Given as goal

abbrev pub invariant-loop-event : goal.invariant-loop-event
invariant-loop-event l = AllByRecursion (IsKnown l.header) (take l.event-index l.events)
