-- What a call that settles all rows leaves: the seat, the rows that it gives, and what it takes.
use Rattle.std.specs.Prelude.{◌≡◌, ℕ, ◌+◌, ◌-◌, ◌*◌, ◌≤◌, true, false, List, length, sum}
use Rattle.pull_system.specs.Vector.{IsAtMost}
use Rattle.pull_system.specs.System.{SystemView}
use Rattle.pull_system.specs.Rows.{RowsView, AreLeastRows, row_at}
use Rattle.bound_table.specs.Views.{SeatView}
use Rattle.slice_workers.specs.Reaching.{rows_left}
use Rattle.bound_table.specs.Firm.{FirmView}

-- the seat is of the same table, and no number of its floor fell
pub record HasRisen (old new : SeatView) : Type 0 where
  pub table : new.table ≡ old.table
  pub rises : IsAtMost old.floor new.floor

-- the rows are the least of the system, and the floor has them
pub record AreSettledRows (system : SystemView) (words : List ℕ) (rows : RowsView) : Type 0 where
  pub lens : rows.lens ≡ system.lens
  pub least : AreLeastRows system rows.words
  pub floor : rows.words ≡ words

-- So many rows and the rise of the floor pay for the look-ups: each pull is looked up once for each
-- of the rows, and once for each number by which the sum of the floor rises.
abbrev pub IsPaid : SystemView → ℕ → SeatView → SeatView → ℕ → ℕ → Type 0
IsPaid system rows old new steps steps_now = steps_now + length system.pulls * sum old.floor
    ≤ steps + length system.pulls * (rows + sum new.floor)

-- the most look-ups that the rows of one process take, one after the other, from the bottom's
-- vector on
abbrev pub process_looks : SystemView → List ℕ → ℕ
process_looks system bottom =
    length system.pulls * (sum system.lens + length system.lens - sum bottom)

-- the look-ups that settling all rows takes at most, and that the rows which are left, and the
-- bottom's, pay for them: `left` is their number for each process
pub record TakesLooks (system : SystemView) (left : List ℕ) (old new : SeatView)
    (steps steps_now : ℕ) : Type 0 where
  pub looks : steps_now ≤ steps
      + length system.pulls * ((length system.lens + 1) * (sum system.lens + length system.lens))
  pub rises_paid : IsPaid system (sum left + 1) old new steps steps_now

-- The same where the bottom's row is final: it takes no look-up, so the rows that are left pay for
-- all, and each process takes those from the bottom's vector on.
pub record TakesOthers (system : SystemView) (left : List ℕ) (old new : SeatView)
    (steps steps_now : ℕ) : Type 0 where
  pub looks : steps_now ≤ steps
      + length system.lens * process_looks system (row_at system.lens old.floor 0)
  pub rises_paid : IsPaid system (sum left) old new steps steps_now

-- the look-ups that settling behind final rows takes at most, and what pays for them
pub record TakesBehind (system : SystemView) (finals : FirmView) (old new : SeatView)
    (steps steps_now : ℕ) : Type 0 where
  pub all : finals.bottom ≡ false
      → TakesLooks system (rows_left system.lens finals.firsts) old new steps steps_now
  pub others : finals.bottom ≡ true
      → TakesOthers system (rows_left system.lens finals.firsts) old new steps steps_now
