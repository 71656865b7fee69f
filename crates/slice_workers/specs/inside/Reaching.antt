-- Inside: which rows a floor has reached, and which may be handed out or lent.
use Rattle.std.specs.Prelude.{◌≡◌, ℕ, ◌<◌, ◌≤◌, List, Bool}
use Rattle.std.specs.Prelude.{true, false, length, sum, slice_index, slice_index_or}
use Rattle.pull_system.specs.System.{SystemView}
use Rattle.pull_system.specs.Rows.{IsLeast}
use Rattle.raise_machine.specs.Bounds.{word_at, has_start}
use Rattle.bound_table.specs.Firm.{AreFinal, Reaches, ReachesFirst}

-- the vector is the least closed one of the row, and the floor has reached it
pub record IsReached (system : SystemView) (row : ℕ) (floor vector : List ℕ) : Type 0 where
  pub least : IsLeast system row vector
  pub lent : (process : ℕ) → process < length system.lens
      → slice_index vector process ≤ word_at system.lens floor row process

-- the floor has reached the least closed vector of each row
pub record ReachesAll (system : SystemView) (floor : List ℕ) : Type 0 where
  pub each : (row : ℕ) → row ≤ sum system.lens → Reaches system row floor

-- The rows of the process can be settled behind its first ones: the floor has reached these, and
-- the bottom's, whose vector it is.
pub record CanSettle (system : SystemView) (floor vector : List ℕ) (process count : ℕ)
    : Type 0 where
  pub bottom : IsReached system 0 floor vector
  pub first : count ≤ slice_index system.lens process
  pub kept : ReachesFirst system process count floor

-- both rows are there, and the floor lets the first of them lend to the other
pub record MayLendTo (lens floor : List ℕ) (from_row to_row : ℕ) : Type 0 where
  pub from : from_row ≤ sum lens
  pub to : to_row ≤ sum lens
  pub event : has_start lens floor to_row from_row ≡ true

-- the floor has reached the least closed vectors of all rows of the processes that are marked
pub record AreHanded (system : SystemView) (floor : List ℕ) (handed : List Bool) : Type 0 where
  pub each : (process : ℕ) → slice_index_or handed process false ≡ true
      → ReachesFirst system process (slice_index system.lens process) floor

-- what the floor has reached: the first rows of each process, the bottom's row, whose vector it is,
-- and all rows of the processes that are marked
pub record HasReachedRows (system : SystemView) (floor counts vector : List ℕ) (marks : List Bool)
    : Type 0 where
  pub finals : AreFinal system floor counts
  pub bottom : IsReached system 0 floor vector
  pub handed : AreHanded system floor marks
