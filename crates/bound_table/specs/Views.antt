-- What callers see of a table and of a seat.
use Rattle.std.specs.Prelude.{◌≡◌, ℕ, List}
use Rattle.atomic_table.specs.Seated.{TableId}
use Rattle.pull_system.specs.System.{SystemView}
use Rattle.bound_table.specs.Firm.{FirmView}

-- which table it is, by its bounds and by its claims, its system, the words that it began with, and
-- which of its rows are firm
pub record TableView : Type 0 where
  pub id : TableId
  pub claims : TableId
  pub system : SystemView
  pub begun : List ℕ
  pub firm : FirmView

-- A seat is of a table where its `table` is that table. It has a floor for each word, the processes
-- that it claims, and those that it saw taken.
pub record SeatView : Type 0 where
  pub table : TableView
  pub floor : List ℕ
  pub claims : List ℕ
  pub marks : List ℕ

-- the seat is of the same table, and claims and has seen taken the same processes
pub record KeepsClaims (old new : SeatView) : Type 0 where
  pub table : new.table ≡ old.table
  pub claims : new.claims ≡ old.claims
  pub marks : new.marks ≡ old.marks
