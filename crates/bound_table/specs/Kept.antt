-- What a call leaves of a seat's floor.
use Rattle.std.specs.Prelude.{◌≡◌, ◌≢◌, ℕ, ◌+◌, ◌<◌, List, length, slice_index, slice_range}
use Rattle.pull_system.specs.Vector.{IsAtMost}
use Rattle.pull_system.specs.System.{SystemView}
use Rattle.pull_system.specs.Rows.{place_of}
use Rattle.raise_machine.specs.Bounds.{AreBounds, word_at}

-- the words of the other rows are as they were
pub record KeepsOthers (lens : List ℕ) (row : ℕ) (old new : List ℕ) : Type 0 where
  pub each : (other process : ℕ) → other ≢ row → process < length lens
      → word_at lens new other process ≡ word_at lens old other process

-- The vector is the row's floor as far as the first processes go, and what changed from the old
-- floor is that this row rose.
pub record FollowsFirst (system : SystemView) (row count : ℕ) (old new v : List ℕ) : Type 0 where
  pub size : length v ≡ length system.lens
  pub each : (process : ℕ) → process < count
      → slice_index v process ≡ word_at system.lens new row process
  pub others : KeepsOthers system.lens row old new
  pub rises : IsAtMost old new
  pub bounds : AreBounds system new

-- the vector is the row's floor, and what changed from the old floor is that this row rose
abbrev pub Follows : SystemView → ℕ → List ℕ → List ℕ → List ℕ → Type 0
Follows system row old new v = FollowsFirst system row (length system.lens) old new v

-- the words of so many rows from the first on
abbrev pub rows_from : List ℕ → List ℕ → ℕ → ℕ → List ℕ
rows_from lens floor first count =
    slice_range floor (place_of lens first 0) (place_of lens (first + count) 0)
