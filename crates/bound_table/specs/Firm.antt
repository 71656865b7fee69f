-- Which rows of a table are firm: they are the least already, and no call raises them.
use Rattle.std.specs.Prelude.{◌≡◌, ℕ, suc, zero, ◌+◌, ◌<◌, ◌≤◌, Bool, true, List}
use Rattle.std.specs.Prelude.{length, sum, take, slice_index}
use Rattle.pull_system.specs.System.{SystemView, source_of, target_of, ask}
use Rattle.pull_system.specs.Rows.{IsLeast, AreLeastRows}
use Rattle.raise_machine.specs.Bounds.{word_at}

-- the floor has reached the least closed vector of the row
pub record Reaches (system : SystemView) (row : ℕ) (floor : List ℕ) : Type 0 where
  pub vector : List ℕ
  pub is : IsLeast system row vector
  pub below : (process : ℕ) → process < length system.lens
      → slice_index vector process ≤ word_at system.lens floor row process

-- the floor has reached the least closed vectors of the first rows of the process
pub record ReachesFirst (system : SystemView) (process count : ℕ) (floor : List ℕ) : Type 0 where
  pub each : (position : ℕ) → 1 ≤ position → position ≤ count
      → Reaches system (sum (take process system.lens) + position) floor

-- the first rows of each process that the floor has reached
pub record AreFinal (system : SystemView) (floor finals : List ℕ) : Type 0 where
  pub size : length finals ≡ length system.lens
  pub few : (process : ℕ) → slice_index finals process ≤ slice_index system.lens process
  pub each : (process : ℕ) → process < length system.lens
      → ReachesFirst system process (slice_index finals process) floor

-- so many first rows of each process are firm, and the bottom's or not
pub record FirmView : Type 0 where
  pub firsts : List ℕ
  pub bottom : Bool

-- the floor has reached the rows that are firm
pub record HasReachedFirm (system : SystemView) (floor : List ℕ) (firm : FirmView) : Type 0 where
  pub firsts : AreFinal system floor firm.firsts
  pub bottom : firm.bottom ≡ true → Reaches system 0 floor

-- the row of the process's event of this number, or the bottom's before the first
abbrev pub row_before : List ℕ → ℕ → ℕ → ℕ
row_before lens process zero = 0
row_before lens process (suc done) = sum (take process lens) + suc done

-- Rows that need no search: they are the least of the system, whose pulls ask for these rows
-- alone. Each pull asks, at each count of its source, just what the row of that event has of its
-- target. The rows of a slice are so, of the system of its own pulls.
pub record AreOwnRows (system : SystemView) (words : List ℕ) : Type 0 where
  pub least : AreLeastRows system words
  pub own : (k x : ℕ) → k < length system.pulls
      → x ≤ slice_index system.lens (source_of system k) → ask system k x
      ≡ word_at system.lens words (row_before system.lens (source_of system k) x)
      (target_of system k)
