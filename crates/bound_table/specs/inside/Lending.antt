-- Inside: when one row may lend its vector to another.
use Rattle.std.specs.Prelude.{◌≡◌, ℕ, ◌≤◌, List, true, length, sum}
use Rattle.raise_machine.specs.Bounds.{has_start}
use Rattle.bound_table.specs.Lending.{HasReached}

-- a row has reached the vector, and may lend it to the other row, whose floor has its event
pub record MayLend (lens floor : List ℕ) (row other : ℕ) (lent : List ℕ) : Type 0 where
  pub there : row ≤ sum lens
  pub size : length lent ≡ length lens
  pub reached : HasReached lens floor row lent
  pub event : has_start lens floor other row ≡ true
