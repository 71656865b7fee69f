-- Counts of events by process.
use Rattle.std.specs.Prelude.{◌≡◌, ℕ, ◌+◌, ◌^◌, ◌<◌, List, length, get_or}
use Rattle.std.specs.Prelude.{◌++◌}
use Rattle.event_log.specs.declared.log.Event.{Event}
use Rattle.vector_clock.specs.Events.{Events, own_events}

-- each count can be raised
abbrev pub HasRoom : List ℕ → Type 0
HasRoom counts = (p : ℕ) → get_or counts p 0 + 1 < 2 ^ 64

-- the events of each process are the old ones with more behind them
pub record Grows (old new : Events) : Type 0 where
  pub count : length new ≡ length old
  pub more : (p : ℕ) → (rest : List Event) × (own_events new p ≡ own_events old p ++ rest)
