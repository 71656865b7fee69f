-- Inside: what a conjunction needs before it is settled, and what has changed when it is.
use Rattle.std.specs.Prelude.{◌≡◌, ℕ, ◌+◌, ◌≤◌, ◌↔◌, Bool, true, List, [], ◌∷◌, ◌++◌, length}
use Rattle.std.specs.Prelude.{drop, Option, Some, IfSome}
use Rattle.run_model.specs.Cut.{Cut, Clocks, lengths}
use Rattle.run_model.specs.Consistent.{IsConsistent}
use Rattle.run_model.specs.Slice.{Cuts}
use Rattle.pota_base.specs.Limits.{most_parts}
use Rattle.pull_system.specs.declared.pull.Pull.{Pull}
use Rattle.pull_system.specs.System.{SystemView, IsSystem, IsClosed}
use Rattle.slice_graph.specs.Views.{SliceView, slice_of}
use Rattle.slice_graph.specs.Fitting.{FitsOrder}
use Rattle.pull_system.specs.Rows.{RowsView, AreLeastRows}
use Rattle.pull_system.specs.Growth.{DidNotFall, grown_words}
use Rattle.raise_machine.specs.Bounds.{AreBounds}
use Rattle.rctl_parts.specs.Pieces.{Piece}
use Rattle.rctl_parts.specs.MadeFor.{PieceFits, part_count}
use Rattle.part_pulls.specs.declared.observed.Observed.{Observed}
use Rattle.part_pulls.specs.Observing.{scope_seen}
use Rattle.part_pulls.specs.Counters.{AllRise, counters_of_part}
use Rattle.conjunctions.specs.Numbering.{within}
use Rattle.conjunctions.specs.Rounds.{RoundView, HasOrderSystem}
use Rattle.conjunctions.specs.Counting.{first_of, steps_for}
use Rattle.conjunctions.specs.inside.Beginning.{BeginsWithOrder, GatheredView, MayBeginFrom}
use Rattle.slice_workers.specs.Spent.{Spent}
use Rattle.slice_workers.specs.Views.{SettledView}
use Rattle.conjunctions.specs.Settling.{CanSettle, CutsStay, MayBeFirm}

-- the clocks of an order, the pulls of a conjunction, and whether its rows are kept
pub record Conjoined : Type 0 where
  pub order : Clocks
  pub pulls : List Pull
  pub keeps : Bool

abbrev pub conjoined_of : (order : Clocks) → (pulls : List Pull) → (keeps : Bool) → Conjoined
conjoined_of order pulls keeps = record { order = order; pulls = pulls; keeps = keeps }

-- a part can be settled: it is made for what was observed and has few parts, none of its counters
-- falls, and the conjunctions within it may be settled in the round
pub record CanSettlePart (seen : Observed) (round : RoundView) (p : Piece) : Type 0 where
  pub fits : PieceFits (scope_seen seen) p
  pub count : part_count p ≤ most_parts
  pub counters : AllRise seen (counters_of_part p)
  pub begins : CanSettle seen round (within p)

-- what was gathered is of this order, and the system that the round has is of it or of an earlier
-- one
pub record SharesOrder (o : Clocks) (gathered : GatheredView) (round : RoundView) : Type 0 where
  pub same : gathered.order ≡ o
  pub system : HasOrderSystem o round

-- the rows of the round are as before
pub record KeepsRows (old new : RoundView) : Type 0 where
  pub before_is : new.before ≡ old.before
  pub settled_is : new.settled ≡ old.settled

-- the slice is of the order, and has the consistent cuts that are closed under the system
pub record IsSliceOfSystem (o : Clocks) (system : SystemView) (slice : SliceView) : Type 0 where
  pub fits : FitsOrder o slice
  pub cuts : (c : Cut) → IsConsistent o c → Cuts o (slice_of slice) c ↔ IsClosed system c

-- one conjunction with these pulls was settled: its rows are the least ones of the system, they
-- stand behind the others, those of atoms were settled by steps, the slice has the consistent cuts
-- that are closed under the pulls, and the system that the round has is that of the order, or of an
-- earlier one
pub record SettlesOne (conjoined : Conjoined) (workers : ℕ) (old new : RoundView) (spent : Spent)
    (slice : SliceView) : Type 0 where
  pub before : new.before ≡ drop 1 old.before
  pub one : SettledView
  pub settled : new.settled ≡ old.settled ++ one ∷ []
  pub lens : one.rows.lens ≡ lengths conjoined.order
  pub system : IsSystem (record { lens = lengths conjoined.order; pulls = conjoined.pulls })
  pub least : AreLeastRows (record { lens = lengths conjoined.order; pulls = conjoined.pulls })
      one.rows.words
  pub by_steps : conjoined.keeps ≡ true → MayBeFirm (first_of old.before) one.firm
  pub looks : workers ≡ 1 → spent.after
      ≤ spent.before + steps_for (length conjoined.pulls) conjoined.keeps (lengths conjoined.order)
      (first_of old.before) one.rows
  pub order : HasOrderSystem conjoined.order new
  pub fits : FitsOrder conjoined.order slice
  pub cuts : (c : Cut) → IsConsistent conjoined.order c → Cuts conjoined.order (slice_of slice) c
      ↔ IsClosed (record { lens = lengths conjoined.order; pulls = conjoined.pulls }) c

-- rows of before that are kept are of no more events than there are now
pub record IsFloorOf (lens : List ℕ) (keeps : Bool) (before : Option RowsView) : Type 0 where
  pub fell : (rows : RowsView) → keeps ≡ true → before ≡ Some rows → DidNotFall rows.lens lens

-- and a table of the system may begin from them, grown, where those with a cut are final
pub record CanBegin (system : SystemView) (keeps : Bool) (before : Option RowsView) : Type 0 where
  pub fell : IsFloorOf system.lens keeps before
  pub floor : (rows : RowsView) → keeps ≡ true → before ≡ Some rows
      → AreBounds system (grown_words system.lens rows)
  pub stays : (rows : RowsView) → keeps ≡ true → before ≡ Some rows → CutsStay system rows

-- a conjunction with this system may begin: from its rows of before, and from the rows that were
-- gathered
pub record CanBeginTable (o : Clocks) (system : SystemView) (keeps : Bool)
    (before floor : Option RowsView) : Type 0 where
  pub lens : system.lens ≡ lengths o
  pub order : keeps ≡ true → BeginsWithOrder o system.pulls
  pub kept : CanBegin system keeps before
  pub gathered : IfSome floor (MayBeginFrom system.lens system.pulls)
