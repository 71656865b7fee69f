-- A row that is settled, call after call.
use Rattle.std.proofs.Common.{ℕ, ◌+◌, ◌≤◌, List, get_or, arith, ◌∙◌}
use Rattle.pull_system.specs.Vector.{IsAtMost}
use Rattle.pull_system.specs.Rows.{start_of}
use Rattle.pull_system.specs.System.{IsBelowLeast}
use Rattle.bound_table.specs.Views.{TableView, SeatView}
use Rattle.bound_table.specs.inside.Asking.{IsSettling}
use Rattle.bound_table.proofs.Claiming.{keeps_refl, keeps_trans}
use Rattle.bound_table.proofs.Floors.{follows_trans, follows_again, follows_rises, follows_below}

pub settling_trans : (table : TableView) (row : ℕ) (a b c : SeatView) (v w : List ℕ) → IsSettling table row a b v → IsSettling table row b c w → IsSettling table row a c w
settling_trans table row a b c v w first second = record {
  system = first.system;
  fits = first.fits;
  there = first.there;
  keeps = keeps_trans a b c first.keeps second.keeps;
  follows = follows_trans table.system row a.floor b.floor c.floor v w first.follows second.follows;
}

-- what a call leaves is what the next one needs
pub settling_again : (table : TableView) (row : ℕ) (a b : SeatView) (v : List ℕ) → IsSettling table row a b v → IsSettling table row b b v
settling_again table row a b v settling = record {
  system = settling.system;
  fits = settling.keeps.table ∙ settling.fits;
  there = settling.there;
  keeps = keeps_refl b;
  follows = follows_again table.system row a.floor b.floor v settling.follows;
}

-- the vector only rises
pub settling_rises : (table : TableView) (row : ℕ) (a b c : SeatView) (v w : List ℕ) → IsSettling table row a b v → IsSettling table row b c w → IsAtMost v w
settling_rises table row a b c v w first second = follows_rises table.system row a.floor b.floor c.floor v w first.follows second.follows

-- the vector is at or above the row's start, and within each closed vector of the row
pub settling_below : (table : TableView) (row : ℕ) (a b : SeatView) (v : List ℕ) → IsSettling table row a b v → IsBelowLeast table.system (start_of table.system.lens row) v
settling_below table row a b v settling = follows_below table.system settling.system row a.floor b.floor v settling.there settling.follows

pub entry_there : (table : TableView) (row process x : ℕ) (a b : SeatView) (v : List ℕ) → IsSettling table row a b v → x ≤ get_or v process 0 → x ≤ get_or table.system.lens process 0 + 1
entry_there table row process x a b v settling less = omega (arith, less, (settling_below table row a b v settling).vector.within process)
