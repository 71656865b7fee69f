-- The events of all processes in one list, and the history of each process by the places of its
-- events there.
use Rattle.std.specs.Prelude.{◌≡◌, ℕ, ℤ, ◌+◌, ◌-◌, ◌*◌, ◌<◌, List, [], ◌∷◌, ◌++◌, length, map}
use Rattle.std.specs.Prelude.{take, drop, set, sum, get_or}
use Rattle.std.specs.List.{AllByRecursion}
use Rattle.run_model.specs.Run.{assigned}
use Rattle.event_log.specs.declared.log.Assign.{Assign}
use Rattle.event_log.specs.declared.log.Event.{Event}
use Rattle.event_log.specs.declared.log.Kind.TheVariants as kind
use Rattle.event_log.specs.States.{HistoryView, IsHistory, AssignsWithin, assignment_of}

-- ---- one process

-- how many variables it has, where its events stand among all, and the rows of its states
pub record PlacedHistory : Type 0 where
  pub width : ℕ
  pub places : List ℕ
  pub values : List ℤ

-- there is a row of this width for the opening state, and one for each event
abbrev pub HasRows : ℕ → List ℕ → List ℤ → Type 0
HasRows width places values = length values ≡ (length places + 1) * width

-- one event more stands at this place, and the last row under its assignments is one row more
abbrev pub with_place : PlacedHistory → ℕ → List Assign → PlacedHistory
with_place h place assigns = record {
  width = h.width;
  places = h.places ++ place ∷ [];
  values = h.values
      ++ assigned (drop (length h.values - h.width) h.values) (map assignment_of assigns);
}

-- its first events alone
abbrev pub first_of : PlacedHistory → ℕ → PlacedHistory
first_of h len =
    record h { places = take len h.places; values = take ((len + 1) * h.width) h.values }

-- ---- its events

-- stands for an event where there is none
abbrev pub no_event : Event
no_event = record { process = 0; line = 0; clock = []; kind = kind.Internal; assigns = [] }

-- the events at these places among all
abbrev pub events_at : List Event → List ℕ → List Event
events_at all places = map (λ (i : ℕ). get_or all i no_event) places

-- the opening state and the events of the process
abbrev pub history_of : List Event → PlacedHistory → HistoryView
history_of all h = record { opening = take h.width h.values; events = events_at all h.places }

-- its places are among those of all events, and its values are the rows of its states
pub record IsPlaced (all : List Event) (h : PlacedHistory) : Type 0 where
  pub within : AllByRecursion (λ (i : ℕ). i < length all) h.places
  pub rows : IsHistory h.width h.values (events_at all h.places)

-- ---- all processes

abbrev pub unplaced : PlacedHistory
unplaced = record { width = 0; places = []; values = [] }

abbrev pub histories_of : List Event → List PlacedHistory → List HistoryView
histories_of all hs = map (history_of all) hs

-- how many events each process has
abbrev pub lens_of : List PlacedHistory → List ℕ
lens_of hs = map (λ (h : PlacedHistory). length h.places) hs

-- each process has its history, and there are no other events
pub record ArePlaced (all : List Event) (hs : List PlacedHistory) : Type 0 where
  pub each : (p : ℕ) → IsPlaced all (get_or hs p unplaced)
  pub count : length all ≡ sum (lens_of hs)

-- the process of the event is there, and has the variables that the event assigns
pub record HasPlace (hs : List PlacedHistory) (e : Event) : Type 0 where
  pub process : e.process < length hs
  pub assigns : AssignsWithin (get_or hs e.process unplaced).width e

-- each event of a batch, of which the first stands at this place, behind those of its process
unfoldable pub with_places : List PlacedHistory → ℕ → List Event → List PlacedHistory
with_places hs place [] = hs
with_places hs place (e ∷ rest) =
    let own = with_place (get_or hs e.process unplaced) place e.assigns in
    with_places (set hs e.process own) (place + 1) rest

-- the new history begins as the old one
pub record IsLonger (old new : PlacedHistory) : Type 0 where
  pub width : new.width ≡ old.width
  pub places : take (length old.places) new.places ≡ old.places
  pub values : take (length old.values) new.values ≡ old.values

-- each history begins as the old one
pub record AreLonger (old new : List PlacedHistory) : Type 0 where
  pub count : length new ≡ length old
  pub each : (p : ℕ) → IsLonger (get_or old p unplaced) (get_or new p unplaced)

-- each history has its rows
abbrev pub AllHaveRows : List PlacedHistory → Type 0
AllHaveRows hs = (p : ℕ) →
    let h = get_or hs p unplaced in HasRows h.width h.places h.values
