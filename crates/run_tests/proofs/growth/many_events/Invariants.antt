use Rattle.std.proofs.Common.{◌≡◌, length}
use Rattle.std.specs.List.{AllByRecursion}
use Rattle.event_log.specs.declared.log.Header.{Header}
use Rattle.event_log.specs.States.{IsKnown}
use Rattle.vector_clock.specs.Events.{EventFits}
use Rattle.run_tests.proofs.growth.many_events.Given as goal

abbrev pub invariant-loop-before : goal.invariant-loop-before
invariant-loop-before l = AllByRecursion (EventFits 2) l.batch × ((h : Header) → length h.procs ≡ 2 → AllByRecursion (IsKnown h) l.batch) × (length l.batch ≡ l.before)
