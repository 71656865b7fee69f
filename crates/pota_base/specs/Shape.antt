use Rattle.std.specs.Prelude.{◌≡◌, ℕ, ◌+◌, ◌≤◌, List, length, take, sum, slice_index}
use Rattle.pota_base.specs.Limits.{most_processes, most_events}
use Rattle.pota_base.specs.declared.shape.EventId.{EventId}

-- the lengths of a run's processes: how many events each has
pub record IsShape (lens : List ℕ) : Type 0 where
  pub some : 1 ≤ length lens
  pub few : length lens ≤ most_processes
  pub events : sum lens ≤ most_events

-- the event is there: its process is one of the shape's, and its position counts from 1
pub record HasEvent (lens : List ℕ) (event : EventId) : Type 0 where
  pub process : event.process + 1 ≤ length lens
  pub first : 1 ≤ event.position
  pub last : event.position ≤ slice_index lens event.process

-- the row order: row 0 is the bottom's, then come the events of process 0 in order, then those of
-- process 1, and so on
abbrev pub row_of : List ℕ → EventId → ℕ
row_of lens event = sum (take event.process lens) + event.position

-- where each process's rows begin, less one: what came before it
pub record AreStarts (lens starts : List ℕ) : Type 0 where
  pub count : length starts ≡ length lens + 1
  pub each : (process : ℕ) → process ≤ length lens
      → slice_index starts process ≡ sum (take process lens)
