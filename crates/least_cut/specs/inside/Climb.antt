-- What stays true while a vector is raised to the least closed one.
use Rattle.std.specs.Prelude.{◌≡◌, ◌≢◌, ◌⊎◌, ℕ, ◌+◌, ◌<◌, ◌≤◌, List, Bool, false, true, length, sum}
use Rattle.std.specs.Prelude.{slice_index, slice_index_or, slice_set}
use Rattle.pota_base.specs.Limits.{most_processes}
use Rattle.pull_system.specs.Vector.{IsVector}
use Rattle.pull_system.specs.System.{SystemView, IsBelowLeast, HoldsPull, source_of, target_of, ask}
use Rattle.pull_system.specs.Marks.{marked}

-- each pull that was looked at holds, unless its source has risen
pub record AreHeld (system : SystemView) (v : List ℕ) (risen : List Bool) (looked : ℕ → Type 0) :
    Type 0 where
  pub each : (k : ℕ) → k < length system.pulls → looked k
      → slice_index_or risen (source_of system k) false ≡ false → HoldsPull system v k

-- one look at pull k: it holds and nothing changes, or its target rises to at least what it asks
-- for and is marked
pub data IsLook (system : SystemView) (k : ℕ) (v w : List ℕ) (risen marks : List Bool) : Type 0
  where
    Held : HoldsPull system v k → w ≡ v → marks ≡ risen → IsLook system k v w risen marks
    Raised : (z : ℕ) → ask system k (slice_index v (source_of system k)) ≤ z
        → slice_index v (target_of system k) < z → w ≡ slice_set v (target_of system k) z
        → marks ≡ slice_set risen (target_of system k) true → IsLook system k v w risen marks

-- k is one of the first numbers
pub record IsAmongFirst (numbers : List ℕ) (count k : ℕ) : Type 0 where
  pub index : ℕ
  pub before : index < count
  pub is : slice_index numbers index ≡ k

-- what was looked at once all pulls from the other processes and the first of these numbers were
abbrev pub IsLooked : SystemView → ℕ → List ℕ → ℕ → ℕ → Type 0
IsLooked system process numbers count k =
    (source_of system k ≢ process) ⊎ IsAmongFirst numbers count k

-- room for every process that there may be, and no mark at one that is not there
pub record AreMarks (lens : List ℕ) (risen : List Bool) : Type 0 where
  pub size : length risen ≡ most_processes
  pub there : (process : ℕ) → slice_index_or risen process false ≡ true → process < length lens

-- What looks at pulls keep, from a vector and its marks to those that they leave: the vector stays
-- below each least closed one that it was below, and each mark that is set is paid for by a rise.
pub record IsClimb (system : SystemView) (v w : List ℕ) (before after : List Bool) : Type 0 where
  pub vector : IsVector system.lens w
  pub below : (start : List ℕ) → IsBelowLeast system start v → IsBelowLeast system start w
  pub marks : AreMarks system.lens after
  pub pays : marked after + sum v ≤ marked before + sum w
