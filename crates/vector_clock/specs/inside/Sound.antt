-- Inside: which clocks have been judged, and what sound ones add to those before them.
use Rattle.std.specs.Prelude.{◌≡◌, ℕ, ◌-◌, ◌<◌, max, List}
use Rattle.std.specs.Prelude.{[], ◌∷◌, ◌++◌, length}
use Rattle.run_model.specs.Cut.{Clocks, count, lengths}
use Rattle.run_model.specs.Consistent.{clock, IsEvent}
use Rattle.event_log.specs.declared.log.Event.{Event}
use Rattle.vector_clock.specs.Faults.{named_clock}
use Rattle.vector_clock.specs.Sound.{IsSound}

-- so many events of each process as these counts say have none
pub record AreSoundUpTo (o : Clocks) (judged : List ℕ) : Type 0 where
  pub counts : length judged ≡ length o
  pub sound : (p a : ℕ) → IsEvent judged p a → IsSound o p a

-- the clock counts what the event before on its process counts, and maybe another number of events
-- of its own process
pub record AddsOnlyItself (o : Clocks) (a : ℕ) (e : Event) : Type 0 where
  pub later : 1 < a
  pub same : (j : ℕ) → (j ≡ e.process → ⊥)
      → count e.clock j ≡ count (clock o e.process (a - 1)) j

-- the last event of process q that the clock counts has no fault and doesn't count this event, and
-- the clock has the greater counts of that one and of the event before on its process; of its own
-- process it may count any number of events
pub record JoinsNamed (o : Clocks) (a : ℕ) (e : Event) (q : ℕ) : Type 0 where
  pub later : 1 < a
  pub other : q ≡ e.process → ⊥
  pub sound : IsSound o q (count e.clock q)
  pub earlier : count (named_clock o e q) e.process < a
  pub joined : (j : ℕ) → (j ≡ e.process → ⊥)
      → count e.clock j ≡ max (count (clock o e.process (a - 1)) j) (count (named_clock o e q) j)

-- the clocks of each process, with those of the second table behind those of the first
abbrev pub joined_clocks : Clocks → Clocks → Clocks
joined_clocks [] added = []
joined_clocks (rows ∷ o) [] = rows ∷ o
joined_clocks (rows ∷ o) (more ∷ added) = (rows ++ more) ∷ joined_clocks o added

-- the tables have as many processes, and these are the lengths of both together
pub record AreJoined (o added : Clocks) (lens : List ℕ) : Type 0 where
  pub count : length added ≡ length o
  pub lens_are : lens ≡ lengths (joined_clocks o added)
