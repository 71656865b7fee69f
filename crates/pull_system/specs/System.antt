-- A system of pulls, its closed vectors, and the least of them.
use Rattle.std.specs.Prelude.{◌≡◌, ℕ, ◌+◌, ◌^◌, ◌<◌, ◌≤◌, List, []}
use Rattle.std.specs.Prelude.{length, slice_index, slice_index_or, All}
use Rattle.pota_base.specs.Shape.{IsShape}
use Rattle.pull_system.specs.declared.pull.Pull.{Pull}
use Rattle.pull_system.specs.Vector.{IsAtMost, IsVector}

-- the entries never fall, and none is above `most`
pub record RisesWithin (table : List ℕ) (most : ℕ) : Type 0 where
  pub rises : (x y : ℕ) → x ≤ y → y < length table → slice_index table x ≤ slice_index table y
  pub within : (x : ℕ) → slice_index table x ≤ most

-- A pull says `v[dst] >= table[v[src]]`. Its table has an entry for each component that the source
-- may have, never falls, and stays within what the target may have.
pub record IsPull (lens : List ℕ) (pull : Pull) : Type 0 where
  pub source : pull.src < length lens
  pub target : pull.dst < length lens
  pub size : length pull.table ≡ slice_index lens pull.src + 2
  pub table : RisesWithin pull.table (slice_index lens pull.dst + 1)

-- the lengths of the processes, and the pulls in their order
pub record SystemView : Type 0 where
  pub lens : List ℕ
  pub pulls : List Pull

pub record IsSystem (system : SystemView) : Type 0 where
  pub shape : IsShape system.lens
  pub pulls : All (IsPull system.lens) system.pulls
  pub count : length system.pulls < 2 ^ 32

-- what is read where there is no pull
abbrev pub no_pull : Pull
no_pull = record { src = 0; dst = 0; table = [] }

abbrev pub pull_at : SystemView → ℕ → Pull
pull_at system k = slice_index_or system.pulls k no_pull

abbrev pub source_of : SystemView → ℕ → ℕ
source_of system k = (pull_at system k).src

abbrev pub target_of : SystemView → ℕ → ℕ
target_of system k = (pull_at system k).dst

-- what pull k asks of its target where its source is x
abbrev pub ask : SystemView → ℕ → ℕ → ℕ
ask system k x = slice_index (pull_at system k).table x

-- pull k holds at the vector
abbrev pub HoldsPull : SystemView → List ℕ → ℕ → Type 0
HoldsPull system v k =
    ask system k (slice_index v (source_of system k)) ≤ slice_index v (target_of system k)

-- each pull holds at the vector (the advancing of forbidden processes, Chase and Garg, as tables)
pub record IsClosed (system : SystemView) (v : List ℕ) : Type 0 where
  pub each : (k : ℕ) → k < length system.pulls → HoldsPull system v k

-- a closed vector at or above the start
pub record IsClosedFrom (system : SystemView) (start v : List ℕ) : Type 0 where
  pub vector : IsVector system.lens v
  pub above : IsAtMost start v
  pub closed : IsClosed system v

-- the closed vector at or above the start that is within every such vector
pub record IsLeastFrom (system : SystemView) (start v : List ℕ) : Type 0 where
  pub closed : IsClosedFrom system start v
  pub least : (c : List ℕ) → IsClosedFrom system start c → IsAtMost v c

-- at or above the start, and within each closed vector from there
pub record IsBelowLeast (system : SystemView) (start v : List ℕ) : Type 0 where
  pub vector : IsVector system.lens v
  pub above : IsAtMost start v
  pub below : (c : List ℕ) → IsClosedFrom system start c → IsAtMost v c
