-- Batches that come as one.
use Rattle.std.specs.Prelude.{◌≡◌, ℕ, List, [], ◌∷◌, ◌++◌, None}
use Rattle.std.specs.List.{AllByRecursion}
use Rattle.event_log.specs.declared.log.Event.{Event}
use Rattle.event_log.specs.States.{with_batch}
use Rattle.vector_clock.specs.Events.{Events, EventFits, no_events}
use Rattle.vector_clock.specs.Faults.{batch_fault}

-- the events of the batches in their order, as one batch
abbrev pub as_one : List (List Event) → List Event
as_one [] = []
as_one (batch ∷ rest) = batch ++ as_one rest

-- these are the events of one batch without a fault
pub record MayComeAsOne (procs : ℕ) (events : Events) : Type 0 where
  pub batch : List Event
  pub fits : AllByRecursion (EventFits procs) batch
  pub faultless : batch_fault (no_events procs) batch ≡ None
  pub events_are : with_batch (no_events procs) batch ≡ events
