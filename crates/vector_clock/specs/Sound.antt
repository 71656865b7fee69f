-- Clocks without a fault, and the rule that only the events that a clock newly names need be looked
-- at.
use Rattle.std.specs.Prelude.{◌≡◌, ℕ, ◌-◌, ◌<◌, Bool, not, ◌&&◌, ◌==◌, nat_lt, nat_le}
use Rattle.std.specs.Prelude.{length, if◌then◌else◌}
use Rattle.run_model.specs.Cut.{Clocks, count, IsWithin, lengths}
use Rattle.run_model.specs.Consistent.{clock}
use Rattle.event_log.specs.declared.log.Event.{Event}
use Rattle.vector_clock.specs.Events.{some_below, is_beyond}
use Rattle.vector_clock.specs.Faults.{named_clock}

-- event a of process i has no fault of its clock
pub record IsSound (o : Clocks) (i a : ℕ) : Type 0 where
  pub shaped : length (clock o i a) ≡ length o
  pub own : count (clock o i a) i ≡ a
  pub rises : 1 < a → IsWithin (clock o i (a - 1)) (clock o i a)
  pub named : IsWithin (clock o i a) (lengths o)
  pub closed : (j : ℕ) → (j ≡ i → ⊥) → 0 < count (clock o i a) j
      → IsWithin (clock o j (count (clock o i a) j)) (clock o i a)
  pub loopless : (j : ℕ) → (j ≡ i → ⊥) → 0 < count (clock o i a) j
      → count (clock o j (count (clock o i a) j)) i < a

-- how many events of process j the event before place a counts
abbrev pub counted_before : Clocks → ℕ → ℕ → ℕ → ℕ
counted_before o i a j = if nat_lt 1 a then count (clock o i (a - 1)) j else 0

-- the clock names an event of process j that the event before on its process doesn't count
abbrev pub newly_names : Clocks → ℕ → Event → ℕ → Bool
newly_names o a e j =
    not (j == e.process) && nat_lt (counted_before o e.process a j) (count e.clock j)

abbrev pub is_newly_open : Clocks → ℕ → Event → Bool
is_newly_open o a e =
    some_below (length e.clock) (λ j. newly_names o a e j && is_beyond (named_clock o e j) e.clock)

abbrev pub is_newly_loop : Clocks → ℕ → Event → Bool
is_newly_loop o a e =
    some_below (length e.clock) (λ j. newly_names o a e j
    && nat_le a (count (named_clock o e j) e.process))
