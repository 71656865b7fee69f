-- What the laws of this crate say.
use Rattle.std.specs.Prelude.{◌≡◌, ℕ, ◌≤◌, true, List, sum, Some}
use Rattle.trace_growth.specs.Growing.{IsTrace}
use Rattle.pull_system.specs.Vector.{IsAtMost}
use Rattle.pull_system.specs.Rows.{RowsView, row_at, IsLeast}
use Rattle.pull_system.specs.Growth.{old_row, grown_words}
use Rattle.rctl_parts.specs.Pieces.{Piece}
use Rattle.rctl_parts.specs.MadeFor.{EachFits}
use Rattle.part_pulls.specs.declared.observed.Observed.{Observed}
use Rattle.part_pulls.specs.Observing.{AreFull, scope_seen, lens_seen}
use Rattle.part_pulls.specs.Counters.{AllRise, counters_of_parts}
use Rattle.conjunctions.specs.Numbering.{all_atoms}
use Rattle.conjunctions.specs.Settling.{IsSettled}
use Rattle.part_pulls.specs.Later.{IsLater}
use Rattle.part_pulls.specs.Systems.{system_of}

-- a row of before that has a cut is the row of after that comes from it
abbrev pub RowsWithACutStay : Type 0
RowsWithACutStay = (before after : Observed) (ps : List Piece) (old new : RowsView)
    → IsTrace before.trace.states → IsTrace after.trace.states → AreFull before
    → IsLater before after → EachFits (scope_seen before) ps
    → AllRise after (counters_of_parts ps) → all_atoms ps ≡ true
    → IsSettled before ps old → IsSettled after ps new
    → (row kept : ℕ) → row ≤ sum new.lens → old_row old.lens new.lens row ≡ Some kept
    → IsAtMost (row_at old.lens old.words kept) old.lens
    → row_at new.lens new.words row ≡ row_at old.lens old.words kept

-- a row of before that has a cut is the least one where its words are grown
abbrev pub RowsWithACutAreFinal : Type 0
RowsWithACutAreFinal = (before after : Observed) (ps : List Piece) (old : RowsView)
    → IsTrace before.trace.states → IsTrace after.trace.states → AreFull before
    → IsLater before after → EachFits (scope_seen before) ps
    → AllRise after (counters_of_parts ps) → all_atoms ps ≡ true
    → IsSettled before ps old
    → (row kept : ℕ) → row ≤ sum (lens_seen after)
    → old_row old.lens (lens_seen after) row ≡ Some kept
    → IsAtMost (row_at old.lens old.words kept) old.lens
    → IsLeast (system_of after ps) row
    (row_at (lens_seen after) (grown_words (lens_seen after) old) row)
