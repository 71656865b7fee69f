-- Where the rows of a conjunction begin, and which of them are final there.
use Rattle.std.specs.Prelude.{◌≡◌, ℕ, ◌+◌, ◌*◌, ◌<◌, ◌≤◌, ◌++◌, Bool, true, false, List, length}
use Rattle.std.specs.Prelude.{sum, take, slice_index, Option, Some, None, IfSome}
use Rattle.run_model.specs.Cut.{Clocks, lengths}
use Rattle.pota_base.specs.Limits.{most_processes}
use Rattle.pull_system.specs.declared.pull.Pull.{Pull}
use Rattle.pull_system.specs.System.{SystemView, IsSystem}
use Rattle.pull_system.specs.Vector.{IsAtMost}
use Rattle.pull_system.specs.Rows.{RowsView, IsLeast, row_at, starts}
use Rattle.pull_system.specs.Growth.{grown_words}
use Rattle.slice_graph.specs.Views.{SliceView, HasAllRows}
use Rattle.slice_graph.specs.Fitting.{FitsOrder}
use Rattle.slice_graph.specs.PullLists.{pulls_of_order, pulls_of_slice}
use Rattle.slice_graph.specs.Starting.{AreWithinClosed}
use Rattle.raise_machine.specs.Bounds.{AreBounds}
use Rattle.bound_table.specs.Firm.{AreOwnRows, FirmView}
use Rattle.bound_table.specs.Views.{TableView, SeatView}
use Rattle.slice_workers.specs.Spent.{Spent}
use Rattle.slice_workers.specs.Calls.{TakesBehind}
use Rattle.conjunctions.specs.Counting.{steps_for}
use Rattle.conjunctions.specs.Settling.{MayBeFirm}

-- what the parts so far ask of cuts, behind the order's pulls where these come first, the clocks of
-- that order, where there are some, rows to begin from, whether one operator's slice alone asks, and
-- that slice
pub record GatheredView : Type 0 where
  pub order : Clocks
  pub pulls : List Pull
  pub floor : Option RowsView
  pub alone : Bool
  pub slice : Option SliceView

-- rows of these lengths, from which a table of the pulls may begin
pub record MayBeginFrom (lens : List ℕ) (pulls : List Pull) (rows : RowsView) : Type 0 where
  pub shape : rows.lens ≡ lens
  pub within : AreWithinClosed lens pulls rows.words

-- where rows are kept, a table of the pulls may begin from them, and where one temporal part asks
-- alone they are its pulls' own
pub record FloorFits (lens : List ℕ) (gathered : GatheredView) : Type 0 where
  pub begins : IfSome gathered.floor (MayBeginFrom lens gathered.pulls)
  pub own : gathered.alone ≡ true → IfSome gathered.floor
      (λ rows. AreOwnRows (record { lens = lens; pulls = gathered.pulls }) rows.words)

-- the slice is of the order, and its pulls are all that are asked
pub record AsksAlone (o : Clocks) (pulls : List Pull) (slice : SliceView) : Type 0 where
  pub fits : FitsOrder o slice
  pub rows : HasAllRows slice
  pub own : pulls ≡ pulls_of_slice slice

-- the rows to begin from fit, and a slice that is kept asks alone
pub record GatheredFits (o : Clocks) (gathered : GatheredView) : Type 0 where
  pub floor : FloorFits (lengths o) gathered
  pub slice : IfSome gathered.slice (AsksAlone o gathered.pulls)

-- the rows to begin from are as before, and no slice asks alone
pub record KeepsFloor (old new : GatheredView) : Type 0 where
  pub floor_is : new.floor ≡ old.floor
  pub others : new.alone ≡ false
  pub no_slice : new.slice ≡ None

-- the first pulls are those of the order
pub record BeginsWithOrder (o : Clocks) (pulls : List Pull) : Type 0 where
  pub others : List Pull
  pub is : pulls ≡ pulls_of_order o ++ others

-- where the rows of a conjunction of atoms begin: those of before, grown, and where there are none
-- rows that may begin under its pulls
abbrev pub BeginsAtoms : List ℕ → List Pull → Option RowsView → List ℕ → Type 0
BeginsAtoms lens pulls None words = AreWithinClosed lens pulls words
BeginsAtoms lens pulls (Some rows) words = words ≡ grown_words lens rows

-- where those of another conjunction begin: at the rows that were gathered, and else at the starts
abbrev pub BeginsOthers : List ℕ → Option RowsView → List ℕ → Type 0
BeginsOthers lens None words = words ≡ starts lens
BeginsOthers lens (Some rows) words = words ≡ rows.words

-- no row is known to be final
pub record AreNone (finals : List ℕ) : Type 0 where
  pub size : length finals ≡ most_processes
  pub none : (process : ℕ) → slice_index finals process ≡ 0

-- no more rows of a process than it has events
pub record AreWithin (lens finals : List ℕ) : Type 0 where
  pub size : length finals ≡ most_processes
  pub few : (process : ℕ) → slice_index finals process ≤ slice_index lens process

-- of the first rows of each process, so many, the last lies within the lengths
pub record HaveCuts (rows : RowsView) (finals : List ℕ) : Type 0 where
  pub within : AreWithin rows.lens finals
  pub cut : (process : ℕ) → process < length rows.lens → 1 ≤ slice_index finals process
      → IsAtMost (row_at rows.lens rows.words
      (sum (take process rows.lens) + slice_index finals process)) rows.lens

-- which rows of a conjunction of atoms are final where it begins: of those of before the first ones
-- that have cuts
abbrev pub FinalsOfAtoms : Option RowsView → List ℕ → Type 0
FinalsOfAtoms None finals = AreNone finals
FinalsOfAtoms (Some rows) finals = HaveCuts rows finals

-- where a conjunction of atoms begins, and which first rows are final there
pub record AtomsBegin (lens : List ℕ) (pulls : List Pull) (before : Option RowsView)
    (words finals : List ℕ) : Type 0 where
  pub rows : BeginsAtoms lens pulls before words
  pub firsts : FinalsOfAtoms before finals

-- where another conjunction begins: none of its first rows are final there
pub record OthersBegin (lens : List ℕ) (gathered : Option RowsView) (words finals : List ℕ)
    : Type 0 where
  pub rows : BeginsOthers lens gathered words
  pub firsts : AreNone finals

-- Whether the bottom's row is final where a conjunction begins, with the look-ups that this took:
-- only a conjunction of atoms that has no rows of before looks for it.
pub record FindsBottom (system : SystemView) (keeps : Bool) (before : Option RowsView)
    (bottom : Bool) (words : List ℕ) (spent : Spent) : Type 0 where
  pub none : bottom ≡ false → spent.after ≡ spent.before
  pub atoms : bottom ≡ true → keeps ≡ true
  pub anew : bottom ≡ true → before ≡ None
  pub least : bottom ≡ true → IsLeast system 0 (row_at system.lens words 0)
  pub looks : bottom ≡ true → spent.after
      ≤ spent.before + length system.pulls * (1 + sum (row_at system.lens words 0))

-- which rows may be firm where a conjunction begins that is not one of atoms: those of a slice that
-- asks alone, which are the system's own, or none
pub data AreFirmOfSlice (system : SystemView) (firm : FirmView) (words : List ℕ) : Type 0 where
  own_rows : AreOwnRows system words → AreFirmOfSlice system firm words
  no_rows : ((process : ℕ) → slice_index firm.firsts process ≡ 0)
      → AreFirmOfSlice system firm words

-- Which rows may be firm where a conjunction begins: of one of atoms its rows of before that have a
-- cut, and else those of a slice. Where there are neither no row is, but for the bottom's.
pub record AreFirmBy (system : SystemView) (keeps : Bool) (before : Option RowsView)
    (firm : FirmView) (words : List ℕ) : Type 0 where
  pub atoms : keeps ≡ true → MayBeFirm before firm
  pub others : keeps ≡ false → AreFirmOfSlice system firm words

-- A table of the system and its first seat, from which a conjunction begins. What settling takes
-- behind its firm rows, with what finding these took, is within what the conjunction may take.
pub record BeginsTable (system : SystemView) (keeps : Bool) (before : Option RowsView)
    (table : TableView) (seat : SeatView) (spent : Spent) : Type 0 where
  pub is : IsSystem system
  pub system_is : table.system ≡ system
  pub seat_is : seat.table ≡ table
  pub firm : AreFirmBy system keeps before table.firm seat.floor
  pub looks : (rows : RowsView) (new : SeatView) (last : ℕ) → rows.words ≡ new.floor
      → IsAtMost seat.floor new.floor → AreBounds system new.floor
      → TakesBehind system table.firm seat new spent.after last
      → last ≤ spent.before + steps_for (length system.pulls) keeps system.lens before rows
