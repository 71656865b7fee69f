-- Vectors of numbers with one component per process, read as 0 past their end.
use Rattle.std.specs.Prelude.{◌≡◌, ℕ, ◌+◌, ◌≤◌, min, max, List, length, slice_index}

-- each component of the first is at most that of the second
pub record IsAtMost (v w : List ℕ) : Type 0 where
  pub each : (i : ℕ) → slice_index v i ≤ slice_index w i

-- one component per process, each at most one more than the process's length, which says "no such
-- cut yet"
pub record IsVector (lens v : List ℕ) : Type 0 where
  pub size : length v ≡ length lens
  pub within : (i : ℕ) → slice_index v i ≤ slice_index lens i + 1

-- the componentwise minimum and maximum of two vectors
pub record IsMinimum (v w m : List ℕ) : Type 0 where
  pub size : length m ≡ length v
  pub each : (i : ℕ) → slice_index m i ≡ min (slice_index v i) (slice_index w i)

pub record IsMaximum (v w m : List ℕ) : Type 0 where
  pub size : length m ≡ length v
  pub each : (i : ℕ) → slice_index m i ≡ max (slice_index v i) (slice_index w i)
