-- What the laws of this crate say.
use Rattle.std.specs.Prelude.{◌≡◌, ℕ, ◌≤◌, sum, Some}
use Rattle.pull_system.specs.Vector.{IsAtMost}
use Rattle.pull_system.specs.System.{SystemView, IsSystem}
use Rattle.pull_system.specs.Rows.{RowsView, AreLeastRows, IsLeast, row_at}
use Rattle.pull_system.specs.Growth.{Grows, Stays, grown_words, old_row}

-- a row within the lengths of before is the least one where its words are grown
abbrev pub FinalRowsAreLeast : Type 0
FinalRowsAreLeast = (before after : SystemView) → IsSystem before → Grows before after
    → Stays before after → (old : RowsView) → old.lens ≡ before.lens
    → AreLeastRows before old.words → (row kept : ℕ) → row ≤ sum after.lens
    → old_row old.lens after.lens row ≡ Some kept
    → IsAtMost (row_at old.lens old.words kept) old.lens
    → IsLeast after row (row_at after.lens (grown_words after.lens old) row)
