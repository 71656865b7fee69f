-- What the laws of this crate say.
use Rattle.std.specs.Prelude.{◌≡◌, ℕ, ◌<◌, ◌≤◌, ◌+◌, length, sum, take, slice_index}
use Rattle.pull_system.specs.Vector.{IsAtMost}
use Rattle.pull_system.specs.System.{SystemView, IsSystem}
use Rattle.pull_system.specs.Rows.{RowsView, AreLeastRows, row_at}
use Rattle.pull_system.specs.Growth.{Grows, Stays, grown_words}
use Rattle.bound_table.specs.Firm.{ReachesFirst}

-- rows of before up to one within its lengths are least where their words are grown
abbrev pub FirstRowsAreFinal : Type 0
FirstRowsAreFinal = (before after : SystemView) → IsSystem before → Grows before after
    → Stays before after → (old : RowsView) → old.lens ≡ before.lens
    → AreLeastRows before old.words → (process count : ℕ) → process < length before.lens
    → 1 ≤ count → count ≤ slice_index before.lens process
    → IsAtMost (row_at before.lens old.words (sum (take process before.lens) + count))
    before.lens
    → ReachesFirst after process count (grown_words after.lens old)
