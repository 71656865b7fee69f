-- The clocks of a batch, by the places of the events of each process in it.
use Rattle.std.specs.Prelude.{◌≡◌, ℕ, ◌<◌, ◌==◌, List, [], ◌∷◌, length, map, get_or, replicate}
use Rattle.std.specs.Prelude.{if◌then◌else◌}
use Rattle.std.specs.List.{AllByRecursion}
use Rattle.run_model.specs.Cut.{Cut, Clocks}
use Rattle.event_log.specs.declared.log.Event.{Event}
use Rattle.causal_order.specs.Growth.{HasClock, with_clocks}

-- the clock of the event at this place of the batch, counted from 0
abbrev pub clock_in : List Event → ℕ → Cut
clock_in batch i = get_or (map (λ (e : Event). e.clock) batch) i []

-- the clocks of the events at these places
abbrev pub clocks_at : List Event → List (List ℕ) → Clocks
clocks_at batch places = map (map (clock_in batch)) places

-- the clocks of the events of a process in their order
abbrev pub own_clocks : List Event → ℕ → List Cut
own_clocks [] p = []
own_clocks (e ∷ es) p = if e.process == p then e.clock ∷ own_clocks es p else own_clocks es p

-- these are the places of the events of each process in the batch
pub record ArePlaces (procs : ℕ) (batch : List Event) (places : List (List ℕ)) : Type 0 where
  pub count : length places ≡ procs
  pub within : (p k : ℕ) → k < length (get_or places p [])
      → get_or (get_or places p []) k 0 < length batch
  pub clocks : clocks_at batch places ≡ with_clocks (replicate procs []) batch

-- the batch is one of so many processes. Where there are places, they are those of its events
pub record HasPlaces (procs : ℕ) (batch : List Event) (places : List (List ℕ)) : Type 0 where
  pub each : AllByRecursion (HasClock procs) batch
  pub placed : 0 < length places → ArePlaces procs batch places
