-- Events that have the clocks of the definition.
use Rattle.std.specs.Prelude.{◌≡◌, ℕ, List, [], map}
use Rattle.event_log.specs.declared.log.Event.{Event}
use Rattle.vector_clock.specs.Events.{Events}
use Rattle.vector_clock.specs.Fill.{Place, IsThere, event_at, all_events, IsClockIn}

-- the event as if its clock were left out
abbrev pub without_clock : Event → Event
without_clock e = record e { clock = [] }

abbrev pub without_clocks : Events → Events
without_clocks events = map (map without_clock) events

-- these are the events of the batches but for their clocks, and the clock of each is its clock in
-- that log
pub record HaveTheirClocks (procs : ℕ) (batches : List (List Event)) (filled : Events) : Type 0
  where
    pub events : without_clocks filled ≡ without_clocks (all_events procs batches)
    pub clocks : (x : Place) → IsThere (all_events procs batches) x
        → IsClockIn procs batches x (event_at filled x).clock
