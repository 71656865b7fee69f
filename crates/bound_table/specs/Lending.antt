-- What one row lends to another, and what becomes of the row that settles from it.
use Rattle.std.specs.Prelude.{◌≡◌, ℕ, ◌<◌, ◌≤◌, List, length, sum, slice_index}
use Rattle.pull_system.specs.Vector.{IsVector}
use Rattle.pull_system.specs.System.{SystemView, IsClosed}
use Rattle.pull_system.specs.Rows.{row_at, IsLeast}
use Rattle.raise_machine.specs.Bounds.{word_at}
use Rattle.bound_table.specs.Views.{TableView, SeatView}

-- both are rows
pub record AreBothRows (lens : List ℕ) (row other : ℕ) : Type 0 where
  pub first : row ≤ sum lens
  pub second : other ≤ sum lens

-- the row's floor has reached the vector
abbrev pub HasReached : List ℕ → List ℕ → ℕ → List ℕ → Type 0
HasReached lens floor row v = (process : ℕ) → process < length lens
    → slice_index v process ≤ word_at lens floor row process

-- what a row settles from: the words of it that the seat looked at last, and a closed vector that
-- the row before it lends
pub record SettlesFrom (table : TableView) (seat : SeatView) (before row : ℕ) (words lent : List ℕ)
    : Type 0 where
  pub fits : seat.table ≡ table
  pub rows : AreBothRows table.system.lens before row
  pub looked : words ≡ row_at table.system.lens seat.floor row
  pub vector : IsVector table.system.lens lent
  pub closed : IsClosed table.system lent

-- each of both vectors is the least closed vector of the row
pub record AreLeast (system : SystemView) (row : ℕ) (v w : List ℕ) : Type 0 where
  pub least : IsLeast system row v
  pub same : w ≡ v
