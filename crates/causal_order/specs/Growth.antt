-- The vector clocks of a run to which events are added.
use Rattle.std.specs.Prelude.{◌≡◌, ℕ, ◌+◌, ◌<◌, ◌≤◌, List, [], ◌∷◌, ◌++◌, length, sum, get_or, set}
use Rattle.std.specs.List.{AllByRecursion}
use Rattle.run_model.specs.Cut.{Cut, Clocks, lengths}
use Rattle.run_model.specs.Consistent.{IsOrder}
use Rattle.pota_base.specs.Limits.{most_events}
use Rattle.event_log.specs.declared.log.Event.{Event}

-- the clocks with one more behind those of a process
abbrev pub with_row : Clocks → ℕ → Cut → Clocks
with_row o p clock = set o p (get_or o p [] ++ clock ∷ [])

-- the clock of each of these events, in their order, behind those of its process
unfoldable pub with_clocks : Clocks → List Event → Clocks
with_clocks o [] = o
with_clocks o (e ∷ es) = with_clocks (with_row o e.process e.clock) es

-- the process of the event is there, and its clock has one count for each process
pub record HasClock (procs : ℕ) (e : Event) : Type 0 where
  pub process : e.process < procs
  pub width : length e.clock ≡ procs

-- the events may follow those with these clocks: all clocks, old and new, are those of one order,
-- and there are at most 50,000
pub record MayExtend (o : Clocks) (events : List Event) : Type 0 where
  pub each : AllByRecursion (HasClock (length o)) events
  pub few : sum (lengths o) + length events ≤ most_events
  pub order : IsOrder (with_clocks o events)

-- the clocks of each process are the old ones with more behind them
pub record HasGrown (old new : Clocks) : Type 0 where
  pub count : length new ≡ length old
  pub each : (p : ℕ) → (more : List Cut) × (get_or new p [] ≡ get_or old p [] ++ more)
