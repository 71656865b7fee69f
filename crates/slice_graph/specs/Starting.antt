-- Rows that a table of a system may begin from.
use Rattle.std.specs.Prelude.{◌≡◌, ℕ, ◌+◌, ◌*◌, ◌≤◌, List, length, sum}
use Rattle.pull_system.specs.declared.pull.Pull.{Pull}
use Rattle.pull_system.specs.Vector.{IsAtMost, IsVector}
use Rattle.pull_system.specs.Pulls.{ClosedUnder}
use Rattle.pull_system.specs.Rows.{start_of, row_at}
use Rattle.run_model.specs.Cut.{Clocks, lengths}
use Rattle.slice_graph.specs.PullLists.{pulls_of_order}

-- Rows that a table may begin from: each lies at or above its start, and within each vector at or
-- above the start that is closed under the pulls.
pub record AreWithinClosed (lens : List ℕ) (pulls : List Pull) (words : List ℕ) : Type 0 where
  pub size : length words ≡ (sum lens + 1) * length lens
  pub above : (row : ℕ) → row ≤ sum lens → IsAtMost (start_of lens row) (row_at lens words row)
  pub below : (row : ℕ) → row ≤ sum lens → (c : List ℕ) → IsVector lens c
      → IsAtMost (start_of lens row) c → ClosedUnder pulls c → IsAtMost (row_at lens words row) c

-- what is closed under the pulls is closed under those of the order, and at or above the vector
pub record AreAbove (o : Clocks) (pulls : List Pull) (vector : List ℕ) : Type 0 where
  pub order : (c : List ℕ) → ClosedUnder pulls c → ClosedUnder (pulls_of_order o) c
  pub above : (c : List ℕ) → IsVector (lengths o) c → ClosedUnder pulls c → IsAtMost vector c
