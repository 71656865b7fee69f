-- A table to which the rows of a slice are pushed, one after the other.
use Rattle.std.proofs.Common.{◌≡◌, ℕ, zero, suc, ◌+◌, ◌<◌, List, [], ◌∷◌, ◌++◌, length, get_or, take, sum, replicate, Option, refl, sym, ap, ◌∙◌, subst, arith, below_more}
use Rattle.std.proofs.lemmas.List.{get_or_append_left, get_or_push, length_push, length-replicate}
use Rattle.pota_base.specs.Shape.{HasEvent, row_of}
use Rattle.pota_base.specs.declared.shape.EventId.{EventId}
use Rattle.run_model.specs.Cut.{Cut, Clocks, lengths}
use Rattle.run_model.specs.Sublattice.{IsSublattice}
use Rattle.run_model.specs.Slice.{Slice, StandsFor}
use Rattle.run_model.specs.Operators.{nowhere}
use Rattle.run_model.proofs.Orders.{has_process}
use Rattle.run_model.proofs.SliceLemmas.{stands_rows, stands_fits}
use Rattle.slice_graph.specs.Views.{SliceView, slice_of, no_row}
use Rattle.slice_graph.specs.Fitting.{FitsOrder, Agrees}
use Rattle.slice_graph.proofs.Events.{rows_apart, row_there}

-- the first n rows are there, each as it should be
pub record BuiltBy (lens : List ℕ) (P : ℕ → Option Cut → Type 0) (n : ℕ) (v : SliceView) : Type 0 where
  pub shape : v.lens ≡ lens
  pub size : length v.rows ≡ n
  pub each : (r : ℕ) → r < n → P r (get_or v.rows r no_row)

pub built_none : (lens : List ℕ) (P : ℕ → Option Cut → Type 0) (v : SliceView) → v ≡ record { lens = lens; rows = [] } → BuiltBy lens P 0 v
built_none lens P v is = record {
  shape = ap (λ (x : SliceView). x.lens) is;
  size = ap (λ (x : SliceView). length x.rows) is;
  each = λ r lt. absurd (omega arith);
}

pub built_more : (lens : List ℕ) (P : ℕ → Option Cut → Type 0) (n : ℕ) (v w : SliceView) (k : Option Cut) → BuiltBy lens P n v → P n k
    → w ≡ record v { rows = v.rows ++ k ∷ [] } → BuiltBy lens P (n + 1) w
built_more lens P n v w k h new is = subst (BuiltBy lens P (n + 1)) (sym is) (record {
  shape = h.shape;
  size = length_push v.rows k ∙ ap (λ (m : ℕ). m + 1) h.size;
  each = below_more (λ r. P r (get_or (v.rows ++ k ∷ []) r no_row)) n
      (λ r lt. subst (P r) (sym (get_or_append_left v.rows (k ∷ []) no_row r (omega (arith, h.size)))) (h.each r lt))
      (subst (P n) (sym (get_or_push v.rows k no_row n h.size)) new);
})

-- ---- rows of a slice of the model

-- the row is the slice's: the bottom's, or that of the event that it is of
pub record IsRowOf (lens : List ℕ) (s : Slice) (r : ℕ) (k : Option Cut) : Type 0 where
  pub bottom : r ≡ 0 → k ≡ s.bottom
  pub event : (e : EventId) → HasEvent lens e → row_of lens e ≡ r → k ≡ s.row e.process e.position

pub bottom_row : (lens : List ℕ) (s : Slice) (k : Option Cut) → k ≡ s.bottom → IsRowOf lens s 0 k
bottom_row lens s k is = record { bottom = λ _. is; event = λ e h at. absurd (omega (arith, h.first)) }

pub event_row : (lens : List ℕ) (s : Slice) (r : ℕ) (e : EventId) (k : Option Cut) → HasEvent lens e → row_of lens e ≡ r → k ≡ s.row e.process e.position → IsRowOf lens s r k
event_row lens s r e k there at is = record {
  bottom = λ none. absurd (omega (arith, there.first));
  event = λ f h same. is ∙ ap (λ (x : EventId). s.row x.process x.position) (rows_apart lens e f there h (at ∙ sym same));
}

pub built_agrees : (o : Clocks) (s : Slice) (v : SliceView) (n : ℕ) → BuiltBy (lengths o) (IsRowOf (lengths o) s) n v → n ≡ sum (lengths o) + 1 → Agrees o s v
built_agrees o s v n h all = record {
  shape = h.shape;
  count = h.size ∙ all ∙ ap (λ (lens : List ℕ). sum lens + 1) (sym h.shape);
  bottom = sym ((h.each 0 (omega arith)).bottom refl);
  rows = λ i a ev.
      let e : EventId = record { process = i; position = a } in
      let there : HasEvent (lengths o) e = record { process = omega (arith, has_process (lengths o) i a ev); first = omega (arith, ev.0); last = ev.1 } in
      sym ((h.each (row_of (lengths o) e) (omega (arith, row_there (lengths o) e there))).event e there refl)
      ∙ ap (λ (lens : List ℕ). get_or v.rows (sum (take i lens) + a) no_row) (sym h.shape);
}

pub agrees_stands : (o : Clocks) (s : Slice) (v : SliceView) (A : Cut → Type 0) → Agrees o s v → StandsFor o s A → StandsFor o (slice_of v) A
agrees_stands o s v A h k = stands_rows o s (slice_of v) A h.bottom h.rows k

-- a slice that stands for a closed set fits the order
pub fits_of_set : (o : Clocks) (v : SliceView) (A : Cut → Type 0) → IsSublattice o A → v.lens ≡ lengths o → length v.rows ≡ sum v.lens + 1 → StandsFor o (slice_of v) A → FitsOrder o v
fits_of_set o v A closed shape count k = record { shape = shape; count = count; stands = stands_fits o A closed (slice_of v) k }

-- a slice without cuts
pub empty_agrees : (o : Clocks) (v : SliceView) → v ≡ record { lens = lengths o; rows = replicate (sum (lengths o) + 1) no_row } → Agrees o nowhere v
empty_agrees o v is = subst (Agrees o nowhere) (sym is) (record {
  shape = refl;
  count = length-replicate (sum (lengths o) + 1) no_row;
  bottom = sym (nothing (sum (lengths o) + 1) 0);
  rows = λ i a ev. sym (nothing (sum (lengths o) + 1) (sum (take i (lengths o)) + a));
})
  where
    nothing : (n r : ℕ) → get_or (replicate n no_row) r no_row ≡ no_row
    nothing zero r = refl
    nothing (suc n) zero = refl
    nothing (suc n) (suc r) = nothing n r
