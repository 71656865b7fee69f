-- What callers see of settled rows.
use Rattle.pull_system.specs.Rows.{RowsView}
use Rattle.bound_table.specs.Firm.{FirmView}

-- the rows, and which of them were firm in the table, so that they were the least before a step was
-- taken
pub record SettledView : Type 0 where
  pub rows : RowsView
  pub firm : FirmView
