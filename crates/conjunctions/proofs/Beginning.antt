-- Where the rows of a conjunction begin.
use Rattle.std.proofs.Common.{◌≡◌, ℕ, zero, suc, ◌+◌, ◌*◌, ◌/◌, ◌%◌, ◌<◌, ◌≤◌, ◌⊎◌, inl, inr, Bool, true, false, List, ◌++◌, length, sum, get_or, Option, Some, None, refl, sym, ◌∙◌, ap, subst, arith}
use Rattle.std.specs.Prelude.{IfSome}
use Rattle.std.proofs.Math.Nat.{mod-add-div', mod-lt, mul-le-mul, mul-le-mul_left}
use Rattle.std.proofs.lemmas.List.{get_or_past}
use Rattle.std.proofs.lemmas.Option.{IfSome_then}
use Rattle.run_model.specs.Cut.{Clocks, lengths}
use Rattle.pota_base.specs.Limits.{most_processes}
use Rattle.pull_system.specs.declared.pull.Pull.{Pull}
use Rattle.pull_system.specs.System.{SystemView, IsSystem, IsClosedFrom}
use Rattle.pull_system.specs.Pulls.{ClosedUnder}
use Rattle.pull_system.specs.Rows.{RowsView, start_of, starts, place_of, row_at}
use Rattle.pull_system.proofs.PullLists.{closed_under, closed_left, closed_right}
use Rattle.pull_system.proofs.Starts.{length_starts, starts-place, get_or-row_at}
use Rattle.raise_machine.specs.Bounds.{AreBounds}
use Rattle.slice_graph.specs.Views.{SliceView, HasAllRows, no_row}
use Rattle.slice_graph.specs.Words.{filled}
use Rattle.slice_graph.specs.Fitting.{FitsOrder}
use Rattle.slice_graph.specs.PullLists.{pulls_of_slice}
use Rattle.slice_graph.specs.Starting.{AreWithinClosed}
use Rattle.slice_graph.proofs.SlicePulls.{slice_pulls_fit, slice_pulls_count}
use Rattle.slice_graph.proofs.Alone.{rows_alone}
use Rattle.bound_table.specs.Firm.{AreOwnRows}
use Rattle.conjunctions.specs.inside.Beginning.{GatheredView, MayBeginFrom, FloorFits, GatheredFits, AsksAlone}
use Rattle.conjunctions.proofs.OwnRows.{slice_own}

-- ---- more pulls

-- rows within what is closed under some of the pulls are within what is closed under all
pub within_more : (lens : List ℕ) (some all : List Pull) (words : List ℕ) → ((c : List ℕ) → ClosedUnder all c → ClosedUnder some c) → AreWithinClosed lens some words → AreWithinClosed lens all words
within_more lens some all words fewer within = record {
  size = within.size;
  above = within.above;
  below = λ row there c vector above closed. within.below row there c vector above (fewer c closed);
}

-- rows stay where pulls are put behind the others
floor_more : (lens : List ℕ) (old new : GatheredView) (added : List Pull) → new.pulls ≡ old.pulls ++ added → new.floor ≡ old.floor → (new.alone ≡ true → ⊥) → FloorFits lens old → FloorFits lens new
floor_more lens old new added pulls floor others fits = record {
  begins = subst (λ (f : Option RowsView). IfSome f (MayBeginFrom lens new.pulls)) (sym floor) (IfSome_then old.floor fits.begins more);
  own = λ is. absurd (others is);
}
  where
    more : (rows : RowsView) → MayBeginFrom lens old.pulls rows → MayBeginFrom lens new.pulls rows
    more rows may = record {
      shape = may.shape;
      within =
          subst (λ (list : List Pull). AreWithinClosed lens list rows.words) (sym pulls)
          (within_more lens old.pulls (old.pulls ++ added) rows.words (closed_left old.pulls added) may.within);
    }

-- no slice asks alone
pub no_slice : (o : Clocks) (pulls : List Pull) (slice : Option SliceView) → slice ≡ None → IfSome slice (AsksAlone o pulls)
no_slice o pulls slice none = subst (λ (s : Option SliceView). IfSome s (AsksAlone o pulls)) (sym none) tt

pub gathered_more : (o : Clocks) (old new : GatheredView) (added : List Pull) → new.pulls ≡ old.pulls ++ added → new.floor ≡ old.floor → (new.alone ≡ true → ⊥) → new.slice ≡ None → GatheredFits o old → GatheredFits o new
gathered_more o old new added pulls floor others none fits = record {
  floor = floor_more (lengths o) old new added pulls floor others fits.floor;
  slice = no_slice o new.pulls new.slice none;
}

-- a slice that asks alone is kept, and another one is not
pub kept_fits : (o : Clocks) (old new : GatheredView) (slice : SliceView) → FitsOrder o slice → HasAllRows slice → (old.alone ≡ true → old.pulls ≡ pulls_of_slice slice) → GatheredFits o old
    → new.pulls ≡ old.pulls → new.floor ≡ old.floor → new.alone ≡ old.alone → (old.alone ≡ true → new.slice ≡ Some slice) → (old.alone ≡ false → new.slice ≡ old.slice) → GatheredFits o new
kept_fits o old new slice fits rows own before pulls floor same kept others = record {
  floor = record {
    begins = subst (λ (f : Option RowsView). IfSome f (MayBeginFrom (lengths o) new.pulls)) (sym floor) (subst (λ (list : List Pull). IfSome old.floor (MayBeginFrom (lengths o) list)) (sym pulls) before.floor.begins);
    own = λ is. subst (λ (f : Option RowsView). IfSome f (λ r. AreOwnRows (record { lens = lengths o; pulls = new.pulls }) r.words)) (sym floor)
        (subst (λ (list : List Pull). IfSome old.floor (λ r. AreOwnRows (record { lens = lengths o; pulls = list }) r.words)) (sym pulls) (before.floor.own (sym same ∙ is)));
  };
  slice = slice_by old.alone refl;
}
  where
    slice_by : (alone : Bool) → old.alone ≡ alone → IfSome new.slice (AsksAlone o new.pulls)
    slice_by true is = subst (λ (s : Option SliceView). IfSome s (AsksAlone o new.pulls)) (sym (kept is)) (record { fits = fits; rows = rows; own = pulls ∙ own is })
    slice_by false is = subst (λ (s : Option SliceView). IfSome s (AsksAlone o new.pulls)) (sym (others is)) (subst (λ (list : List Pull). IfSome old.slice (AsksAlone o list)) (sym pulls) before.slice)

-- the rows of a slice whose pulls were put behind others
pub slice_floor : (o : Clocks) (slice : SliceView) (old new : List Pull) (rows : RowsView) → FitsOrder o slice → new ≡ old ++ pulls_of_slice slice → rows.lens ≡ slice.lens
    → AreWithinClosed slice.lens (pulls_of_slice slice) rows.words → MayBeginFrom (lengths o) new rows
slice_floor o slice old new rows fits pulls shape within = record {
  shape = shape ∙ fits.shape;
  within =
      subst (λ (list : List Pull). AreWithinClosed (lengths o) list rows.words) (sym pulls)
      (within_more (lengths o) (pulls_of_slice slice) (old ++ pulls_of_slice slice) rows.words (closed_right old (pulls_of_slice slice))
      (subst (λ (l : List ℕ). AreWithinClosed l (pulls_of_slice slice) rows.words) fits.shape within));
}

-- the pulls of a slice are a system
slice_system : (o : Clocks) (slice : SliceView) → FitsOrder o slice → HasAllRows slice → IsSystem (record { lens = slice.lens; pulls = pulls_of_slice slice })
slice_system o slice fits rows =
    let n : ℕ = length slice.lens in
    let few : n ≤ most_processes = rows.cuts.shape.few in
    let square : n * n ≤ most_processes * most_processes = mul-le-mul {n₁ = n} {m₁ = n} {n₂ = most_processes} {m₂ = most_processes} few few in
    record { shape = rows.cuts.shape; pulls = slice_pulls_fit o slice fits rows; count = omega (arith, slice_pulls_count slice, square) }

-- the rows of a slice are its pulls' own
pub slice_rows : (o : Clocks) (slice : SliceView) (new : List Pull) (rows : RowsView) → FitsOrder o slice → HasAllRows slice → new ≡ pulls_of_slice slice
    → ((row : ℕ) → row ≤ sum slice.lens → row_at slice.lens rows.words row ≡ filled slice.lens (get_or slice.rows row no_row)) → AreWithinClosed slice.lens (pulls_of_slice slice) rows.words
    → AreOwnRows (record { lens = lengths o; pulls = new }) rows.words
slice_rows o slice new rows fits are pulls words begins =
    let own = slice_own slice rows.words (rows_alone o slice fits are (slice_system o slice fits are) rows.words words begins) words in
    let P : List ℕ → List Pull → Type 0 = λ lens list. AreOwnRows (record { lens = lens; pulls = list }) rows.words in
    subst (P (lengths o)) (sym pulls) (subst (λ (l : List ℕ). P l (pulls_of_slice slice)) fits.shape own)

-- ---- the bounds of a table

less_or_not : (a b : ℕ) → (a < b) ⊎ (b ≤ a)
less_or_not a b = grind arith

-- rows that a table of the pulls may begin from lie within its bounds
pub within_bounds : (system : SystemView) (words : List ℕ) → AreWithinClosed system.lens system.pulls words → AreBounds system words
within_bounds system words within = record {
  size = within.size;
  above = record { each = above };
  below = λ place. record { each = λ row process there same c closed. below place row process there same c closed };
}
  where
    lens : List ℕ
    lens = system.lens

    at_place : (row process : ℕ) → row ≤ sum lens → process < length lens → get_or (starts lens) (place_of lens row process) 0 ≤ get_or words (place_of lens row process) 0
    at_place row process row_there there =
        let at = (within.above row row_there).each process in
        omega (arith, starts-place lens row process row_there there, get_or-row_at lens words row process there)

    above : (i : ℕ) → get_or (starts lens) i 0 ≤ get_or words i 0
    above i =
        elim (less_or_not i ((sum lens + 1) * length lens)) [
          | inl there ↦
              let some : 0 < length lens = positive (length lens) there in
              let left : i % length lens < length lens = mod-lt i some in
              let split : i / length lens * length lens + i % length lens ≡ i = omega (arith, mod-add-div' i (length lens)) in
              let row_there : i / length lens ≤ sum lens = row_of (i / length lens) (i % length lens) (length lens) split there in
              subst (λ (j : ℕ). get_or (starts lens) j 0 ≤ get_or words j 0) split (at_place (i / length lens) (i % length lens) row_there left)
          | inr past ↦ omega (arith, get_or_past (starts lens) i 0 (omega (arith, length_starts lens)))
        ]
      where
        positive : (n : ℕ) → i < (sum lens + 1) * n → 0 < n
        positive zero h = absurd (omega arith)
        positive (suc n) h = omega arith

        row_of : (row process n : ℕ) → row * n + process ≡ i → i < (sum lens + 1) * n → row ≤ sum lens
        row_of row process n is h =
            elim (less_or_not row (sum lens + 1)) [
              | inl less ↦ omega arith
              | inr more ↦ absurd (omega (arith, mul-le-mul_left n more))
            ]

    below : (place row process : ℕ) → process < length lens → place ≡ place_of lens row process → (c : List ℕ) → IsClosedFrom system (start_of lens row) c → get_or words place 0 ≤ get_or c process 0
    below place row process there same c closed =
        elim (less_or_not row (sum lens + 1)) [
          | inl less ↦
              let at = (within.below row (omega arith) c closed.vector closed.above ((closed_under system c).0 closed.closed)).each process in
              omega (arith, ap (λ j. get_or words j 0) same, get_or-row_at lens words row process there)
          | inr more ↦ omega (arith, get_or_past words place 0 (omega (arith, within.size, mul-le-mul_left (length lens) more)))
        ]
