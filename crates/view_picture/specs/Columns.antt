-- The columns of the events of a run that are shown.
use Rattle.std.specs.Prelude.{◌≡◌, ◌⊎◌, ℕ, ◌+◌, ◌<◌, Bool, true, false, List, [], length, get_or}
use Rattle.pota_base.specs.declared.shape.EventId.{EventId}
use Rattle.run_model.specs.Cut.{Clocks, count, lengths}
use Rattle.run_model.specs.Consistent.{IsEvent, HappenedBefore}
use Rattle.view_parts.specs.Parts.{place}

-- for each process 0, and then a column for each of its events
abbrev pub Rows : Type 0
Rows = List (List ℕ)

-- the column of the last of so many events of a process, and 0 before the first
abbrev pub column : Rows → ℕ → ℕ → ℕ
column rows process events = get_or (get_or rows process []) events 0

-- a shown event that happened before this one, in the column before it
pub record HasBefore (o : Clocks) (shown : EventId → Bool) (rows : Rows) (i a : ℕ) : Type 0 where
  pub process : ℕ
  pub position : ℕ
  pub before : HappenedBefore o process position i a
  pub is_shown : shown (place process position) ≡ true
  pub next_to : column rows i a ≡ column rows process position + 1

-- The column of a shown event is above that of each event that happened before it, and is 1 or
-- right behind that of a shown one of them. So it is the length of the longest chain of shown
-- events that ends with it. An event that is not shown has the column of the one before it.
pub record AreColumns (o : Clocks) (shown : EventId → Bool) (rows : Rows) : Type 0 where
  pub before : (i a j b : ℕ) → shown (place j b) ≡ true → HappenedBefore o i a j b
      → column rows i a < column rows j b
  pub tight : (i a : ℕ) → shown (place i a) ≡ true → IsEvent (lengths o) i a
      → (column rows i a ≡ 1) ⊎ HasBefore o shown rows i a
  pub carried : (i a : ℕ) → shown (place i (a + 1)) ≡ false → IsEvent (lengths o) i (a + 1)
      → column rows i (a + 1) ≡ column rows i a
  pub opening : (i : ℕ) → column rows i 0 ≡ 0
  pub widths : (i : ℕ) → i < length o → length (get_or rows i []) ≡ count (lengths o) i + 1
  pub procs : length rows ≡ length o
