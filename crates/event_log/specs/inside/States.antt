-- What the steps of taking a batch keep of the histories.
use Rattle.std.specs.Prelude.{◌≡◌, ℕ, ◌<◌, List, [], ◌++◌, length, map, get_or}
use Rattle.event_log.specs.declared.log.Binding.{Binding}
use Rattle.event_log.specs.declared.log.Event.{Event}
use Rattle.event_log.specs.States.{HistoryView, AssignsWithin, with_batch}

abbrev pub events_in : List HistoryView → List (List Event)
events_in histories = map (λ (h : HistoryView). h.events) histories

abbrev pub nothing : HistoryView
nothing = record { opening = []; events = [] }

-- a process with these variables, without events
abbrev pub without_events : List Binding → HistoryView
without_events variables =
    record { opening = map (λ (b : Binding). b.value) variables; events = [] }

abbrev pub fresh : List (List Binding) → List HistoryView
fresh vars = map without_events vars

-- each history is the old one with more events behind it
pub record Grown (old new : List HistoryView) : Type 0 where
  pub count : length new ≡ length old
  pub each : (p : ℕ) → (more : List Event)
      × (get_or new p nothing ≡ record (get_or old p nothing) {
        events = (get_or old p nothing).events ++ more;
      })

-- the history of the event's process is there, and has the variables that the event assigns
pub record HasRoom (histories : List HistoryView) (e : Event) : Type 0 where
  pub process : e.process < length histories
  pub assigns : AssignsWithin (length (get_or histories e.process nothing).opening) e

-- the new histories are the old ones with each event of the batch behind those of its process
pub record Added (old : List HistoryView) (batch : List Event) (new : List HistoryView)
    : Type 0 where
  pub grown : Grown old new
  pub events : events_in new ≡ with_batch (events_in old) batch
