-- A slice of the model as code keeps it: its rows in a table, the bottom's and then the events'.
use Rattle.std.proofs.Common.{◌≡◌, ◌↔◌, ℕ, zero, suc, ◌+◌, ◌≤◌, List, [], ◌∷◌, ◌++◌, get_or, sum, Option, Some, None, refl, sym, ap, subst, ◌∙◌, inl, inr, arith}
use Rattle.std.proofs.lemmas.Bool.{cases_lt}
use Rattle.std.proofs.lemmas.List.{get_or_past}
use Rattle.pota_base.specs.Shape.{IsShape}
use Rattle.run_model.specs.Cut.{Cut, Clocks, lengths}
use Rattle.run_model.specs.Consistent.{IsConsistent}
use Rattle.run_model.specs.Sublattice.{IsSublattice, Having}
use Rattle.run_model.specs.Slice.{Slice, IsLeastOf, Cuts, StandsFor}
use Rattle.run_model.proofs.Counts.{length-lengths}
use Rattle.run_model.proofs.SliceLemmas.{exact_slice}
use Rattle.slice_graph.specs.Views.{SliceView, slice_of, no_row, IsRow, HasAllRows}
use Rattle.slice_graph.specs.Fitting.{FitsOrder}
use Rattle.slice_graph.proofs.Building.{BuiltBy, IsRowOf, built_none, built_more, bottom_row, event_row, built_agrees, agrees_stands, fits_of_set}
use Rattle.slice_graph.proofs.Events.{event_of_row}

-- code's slice of a closed set
pub record HasSlice (o : Clocks) (A : Cut → Type 0) : Type 0 where
  pub slice : SliceView
  pub rows : HasAllRows slice
  pub fits : FitsOrder o slice
  pub cuts : (c : Cut) → A c ↔ Cuts o (slice_of slice) c

module _ (o : Clocks) (A : Cut → Type 0) (closed : IsSublattice o A) (s : Slice) (stands : StandsFor o s A) where
  -- the row is that of the slice, and a cut of the run
  abbrev Here : ℕ → Option Cut → Type 0
  Here r k = IsRowOf (lengths o) s r k × IsRow (lengths o) k

  cut_row : (B : Cut → Type 0) → ((c : Cut) → B c → IsConsistent o c) → (k : Option Cut) → IsLeastOf B k → IsRow (lengths o) k
  cut_row B inside None least = tt
  cut_row B inside (Some c) least =
      let k = inside c least.member in
      record { size = k.shaped ∙ sym (length-lengths o); within = k.within }

  row_there : (r : ℕ) → r ≤ sum (lengths o) → (k : Option Cut) × Here r k
  row_there zero few = (s.bottom, (bottom_row (lengths o) s s.bottom refl, cut_row A closed.consistent s.bottom stands.bottom))
  row_there (suc r) few =
      let found = event_of_row (lengths o) (suc r) (omega arith) few in
      let i = found.0.process in
      let a = found.0.position in
      let least = stands.rows i a (omega (arith, found.1.first), found.1.last) in
      (s.row i a, (event_row (lengths o) s (suc r) found.0 (s.row i a) found.1 found.2 refl, cut_row (Having A i a) (λ c h. closed.consistent c h.0) (s.row i a) least))

  table : (n : ℕ) → n ≤ sum (lengths o) + 1 → (v : SliceView) × BuiltBy (lengths o) Here n v
  table zero few =
      let v : SliceView = record { lens = lengths o; rows = [] } in
      (v, built_none (lengths o) Here v refl)
  table (suc n) few =
      let before = table n (omega (arith, few)) in
      let row = row_there n (omega (arith, few)) in
      let v : SliceView = record { lens = before.0.lens; rows = before.0.rows ++ row.0 ∷ [] } in
      let next : n + 1 ≡ suc n = omega arith in
      (v, subst (λ (m : ℕ). BuiltBy (lengths o) Here m v) next (built_more (lengths o) Here n before.0 v row.0 before.1 row.1 refl))

  whole_table : (v : SliceView) × BuiltBy (lengths o) Here (sum (lengths o) + 1) v
  whole_table = table (sum (lengths o) + 1) (omega arith)

  rows_alone : (n : ℕ) (v : SliceView) → BuiltBy (lengths o) Here n v → BuiltBy (lengths o) (IsRowOf (lengths o) s) n v
  rows_alone n v built = record { shape = built.shape; size = built.size; each = λ r less. (built.each r less).0 }

  all_rows : IsShape (lengths o) → (v : SliceView) → BuiltBy (lengths o) Here (sum (lengths o) + 1) v → HasAllRows v
  all_rows shape v built = record {
    cuts = record {
      shape = subst IsShape (sym built.shape) shape;
      each = λ r. subst (λ (lens : List ℕ). IsRow lens (get_or v.rows r no_row)) (sym built.shape) (each r);
    };
    count = built.size ∙ ap (λ (lens : List ℕ). sum lens + 1) (sym built.shape);
  }
    where
      each : (r : ℕ) → IsRow (lengths o) (get_or v.rows r no_row)
      each r = elim (cases_lt r (sum (lengths o) + 1)) [
        | inl less ↦ (built.each r less).1
        | inr past ↦ subst (IsRow (lengths o)) (sym (get_or_past v.rows r no_row (omega (arith, past, built.size)))) tt
      ]

  pub slice_kept : IsShape (lengths o) → HasSlice o A
  slice_kept shape =
      let v = whole_table.0 in
      let rows = all_rows shape v whole_table.1 in
      let agrees = built_agrees o s v (sum (lengths o) + 1) (rows_alone (sum (lengths o) + 1) v whole_table.1) refl in
      let kept = agrees_stands o s v A agrees stands in
      record {
        slice = v;
        rows = rows;
        fits = fits_of_set o v A closed agrees.shape agrees.count kept;
        cuts = exact_slice o A closed (slice_of v) kept;
      }
