-- The rows of conjunctions: what each of them has to be, and what a call of the recursion leaves of
-- the lists of rows.
use Rattle.std.specs.Prelude.{◌≡◌, ℕ, ◌+◌, ◌<◌, ◌≤◌, true, false, List, [], ◌∷◌, ◌++◌, length}
use Rattle.std.specs.Prelude.{drop, sum, take, slice_index, Option, Some, None}
use Rattle.run_model.specs.Cut.{Cut, IsWithin}
use Rattle.run_model.specs.Sublattice.{IsLeast}
use Rattle.pota_base.specs.Limits.{most_disjuncts, most_parts}
use Rattle.pull_system.specs.System.{SystemView, IsSystem}
use Rattle.pull_system.specs.Rows.{RowsView, AreLeastRows, start_of, row_at}
use Rattle.pull_system.specs.Growth.{DidNotFall, grown_words}
use Rattle.pull_system.specs.Vector.{IsAtMost}
use Rattle.raise_machine.specs.Bounds.{AreBounds}
use Rattle.bound_table.specs.Firm.{FirmView, ReachesFirst}
use Rattle.slice_workers.specs.Spent.{Spent}
use Rattle.slice_workers.specs.Views.{SettledView}
use Rattle.rctl_parts.specs.Pieces.{Piece}
use Rattle.rctl_parts.specs.MadeFor.{AllFit, disjuncts_count}
use Rattle.part_pulls.specs.declared.observed.Observed.{Observed}
use Rattle.part_pulls.specs.Observing.{Reading, AreAnswers, Satisfying, clocks_seen, lens_seen}
use Rattle.part_pulls.specs.Observing.{scope_seen}
use Rattle.conjunctions.specs.Numbering.{all_atoms}
use Rattle.part_pulls.specs.Systems.{system_of}
use Rattle.conjunctions.specs.Rounds.{RoundView, HasOrderSystem}
use Rattle.conjunctions.specs.Counting.{bounds, first_of}

-- the members that hold the start
abbrev pub Above : (Cut → Type 0) → Cut → Cut → Type 0
Above A start c = A c × IsWithin start c

-- the vector is the least member that holds the start, or has a component above its length exactly
-- where there is none
pub record IsLeastOrNone (lens : List ℕ) (A : Cut → Type 0) (start v : List ℕ) : Type 0 where
  pub there : IsWithin v lens → IsLeast (Above A start) v
  pub absent : (i : ℕ) → slice_index lens i < slice_index v i → (c : Cut) → Above A start c → ⊥

-- each row is that of the row's start
abbrev pub AreLeastCuts : List ℕ → List ℕ → (Cut → Type 0) → Type 0
AreLeastCuts lens words A =
    (row : ℕ) → row ≤ sum lens → IsLeastOrNone lens A (start_of lens row) (row_at lens words row)

-- the rows of a conjunction: least cuts at which its parts are true, whatever watches answer what
-- stands in the rows of the watches; for a conjunction of atoms they are the least closed vectors
-- of its system
pub record IsSettled (seen : Observed) (ps : List Piece) (rows : RowsView) : Type 0 where
  pub lens : rows.lens ≡ lens_seen seen
  pub cuts : (reading : Reading) → AreAnswers seen reading
      → AreLeastCuts (lens_seen seen) rows.words (Satisfying seen reading ps)
  pub least : all_atoms ps ≡ true → AreLeastRows (system_of seen ps) rows.words
  pub system : all_atoms ps ≡ true → IsSystem (system_of seen ps)

-- one after the other, as many rows as conjunctions
abbrev pub AreSettled : Observed → List (List Piece) → List SettledView → Type 0
AreSettled seen [] [] = Unit {0}
AreSettled seen [] (one ∷ more) = ⊥
AreSettled seen (ps ∷ rest) [] = ⊥
AreSettled seen (ps ∷ rest) (one ∷ more) = IsSettled seen ps one.rows × AreSettled seen rest more

-- the process's event of this number is there, and its row lies within the lengths
pub record HasCut (rows : RowsView) (process position : ℕ) : Type 0 where
  pub there : position ≤ slice_index rows.lens process
  pub cut : IsAtMost (row_at rows.lens rows.words (sum (take process rows.lens) + position))
      rows.lens

-- so many first rows of each process end with one that has a cut, and the bottom's is none of them
pub record EndWithCuts (rows : RowsView) (firm : FirmView) : Type 0 where
  pub cuts : (process : ℕ) → 1 ≤ slice_index firm.firsts process
      → HasCut rows process (slice_index firm.firsts process)
  pub bottom : firm.bottom ≡ false

-- Which rows of a conjunction of atoms may have been firm when it was settled: rows of before that
-- have a cut. Where there are none of before, no event's row, and so the bottom's alone.
abbrev pub MayBeFirm : Option RowsView → FirmView → Type 0
MayBeFirm None firm = (process : ℕ) → slice_index firm.firsts process ≡ 0
MayBeFirm (Some rows) firm = EndWithCuts rows firm

-- each conjunction of atoms was settled by steps on a shared table: no row was handed in as firm
-- but these
abbrev pub AreSettledBySteps : List SettledView → List (List Piece) → List SettledView → Type 0
AreSettledBySteps before [] settled = Unit {0}
AreSettledBySteps before (ps ∷ cs) [] = Unit {0}
AreSettledBySteps before (ps ∷ cs) (one ∷ more) =
    (all_atoms ps ≡ true → MayBeFirm (first_of before) one.firm)
    × AreSettledBySteps (drop 1 before) cs more

-- where the row of a process's event lies within the lengths, the rows of its first events up to
-- that one, grown, are the least of the system already
pub record CutsStay (system : SystemView) (rows : RowsView) : Type 0 where
  pub each : (process count : ℕ) → process < length system.lens → 1 ≤ count
      → count ≤ slice_index rows.lens process
      → IsAtMost (row_at rows.lens rows.words (sum (take process rows.lens) + count)) rows.lens
      → ReachesFirst system process count (grown_words system.lens rows)

-- a conjunction of atoms may begin from these rows, grown, and those with a cut are final
pub record IsFloor (seen : Observed) (ps : List Piece) (rows : RowsView) : Type 0 where
  pub fell : DidNotFall rows.lens (lens_seen seen)
  pub floor : all_atoms ps ≡ true → AreBounds (system_of seen ps)
      (grown_words (lens_seen seen) rows)
  pub stays : all_atoms ps ≡ true → CutsStay (system_of seen ps) rows

-- where there are rows from before, each conjunction may begin from its own
abbrev pub AreFloors : Observed → List SettledView → List (List Piece) → Type 0
AreFloors seen [] cs = Unit {0}
AreFloors seen (one ∷ before) [] = Unit {0}
AreFloors seen (one ∷ before) (ps ∷ cs) = IsFloor seen ps one.rows × AreFloors seen before cs

-- these disjuncts may be answered on what was observed: each part is made for it, and they are few
pub record CanAnswer (seen : Observed) (ds : List (List Piece)) : Type 0 where
  pub fit : AllFit (scope_seen seen) ds
  pub few : length ds ≤ most_disjuncts
  pub parts : disjuncts_count ds ≤ most_parts

-- these conjunctions may be settled in the round: each may begin from its rows of before, and the
-- system that the round has is that of the order, or of an earlier one
pub record CanSettle (seen : Observed) (round : RoundView) (cs : List (List Piece)) : Type 0 where
  pub floors : AreFloors seen round.before cs
  pub order : HasOrderSystem (clocks_seen seen) round

-- these conjunctions were settled: their rows stand behind the others, as many rows of before are
-- used up, those of atoms were settled by steps, one worker took no more steps than each may, and
-- the system that the round has is that of the order, or of an earlier one
pub record Settles (seen : Observed) (workers : ℕ) (old new : RoundView) (spent : Spent)
    (cs : List (List Piece)) : Type 0 where
  pub before : new.before ≡ drop (length cs) old.before
  pub added : List SettledView
  pub settled : new.settled ≡ old.settled ++ added
  pub rows : AreSettled seen cs added
  pub by_steps : AreSettledBySteps old.before cs added
  pub looks : workers ≡ 1 → spent.after ≤ spent.before + bounds (lens_seen seen) old.before cs added
  pub order : HasOrderSystem (clocks_seen seen) new
