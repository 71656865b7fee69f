-- Rows that are kept as they are settled, in row order.
use Rattle.std.specs.Prelude.{◌≡◌, ℕ, ◌+◌, ◌*◌, ◌<◌, ◌≤◌, Bool, true, false, List, length, sum}
use Rattle.std.specs.Prelude.{take}
use Rattle.pull_system.specs.System.{SystemView}
use Rattle.pull_system.specs.Rows.{row_at}
use Rattle.bound_table.specs.Views.{SeatView}
use Rattle.slice_workers.specs.Spent.{Spent}
use Rattle.slice_workers.specs.Calls.{IsPaid, process_looks}
use Rattle.slice_workers.specs.inside.Reaching.{IsReached}
use Rattle.bound_table.specs.Firm.{row_before}

-- the row that was kept last, with its vector
pub record LastRow : Type 0 where
  pub row : ℕ
  pub vector : List ℕ

abbrev pub last_row_of : (row : ℕ) → (vector : List ℕ) → LastRow
last_row_of row vector = record { row = row; vector = vector }

-- the words are those of the first rows, each the least closed vector of its row, which the floor
-- has reached
pub record AreKept (system : SystemView) (floor : List ℕ) (count : ℕ) (words : List ℕ) : Type
    0 where
  pub size : length words ≡ count * length system.lens
  pub each : (row : ℕ) → row < count → IsReached system row floor (row_at system.lens words row)

-- The rows up to that of the process's event of this number are kept. Its row, or the bottom's
-- before the first event, is the row before, and the vector is its least.
pub record KeepsUpTo (system : SystemView) (process done : ℕ) (floor : List ℕ) (last : LastRow)
    (words : List ℕ) : Type 0 where
  pub row : last.row ≡ row_before system.lens process done
  pub there : last.row ≤ sum system.lens
  pub reached : IsReached system last.row floor last.vector
  pub kept : AreKept system floor (sum (take process system.lens) + (done + 1)) words

-- the look-ups that the rows of one process take at most, from the bottom's vector on, and that so
-- many of them pay for
pub record TakesRows (system : SystemView) (bottom : List ℕ) (rows : ℕ) (old new : SeatView)
    (spent : Spent) : Type 0 where
  pub looks : spent.after ≤ spent.before + process_looks system bottom
  pub rises_paid : IsPaid system rows old new spent.before spent.after

-- The bottom's row pays for its look-ups, and its rise from the floor of before. Where it is final
-- it takes none, and is as it was.
pub record TakesBottom (system : SystemView) (is_final : Bool) (floor vector : List ℕ)
    (steps steps_now : ℕ) : Type 0 where
  pub settled : is_final ≡ false
      → steps_now + length system.pulls * sum (row_at system.lens floor 0)
      ≤ steps + length system.pulls * (1 + sum vector)
  pub none : is_final ≡ true → steps_now ≡ steps
  pub same : is_final ≡ true → vector ≡ row_at system.lens floor 0
