-- What a slice that fits an order has to do with its cuts.
use Rattle.std.proofs.Common.{◌≡◌, ℕ, suc, zero, ◌+◌, ◌<◌, ◌≤◌, List, length, get_or, sum, take, sym, ◌∙◌, ap, subst, arith}
use Rattle.std.proofs.lemmas.List.{ext_get_or}
use Rattle.run_model.specs.Cut.{Cut, Clocks, IsWithin, lengths}
use Rattle.run_model.specs.Consistent.{IsConsistent}
use Rattle.run_model.specs.Slice.{StandsFor}
use Rattle.run_model.proofs.Counts.{length-lengths}
use Rattle.run_model.proofs.SliceLemmas.{one_bottom, one_row}
use Rattle.temporal_slice.specs.PassedOn.{SliceView, IsCut, slice_of, no_row}
use Rattle.temporal_slice.specs.PassedOn.{FitsOrder}
use Rattle.temporal_slice.proofs.PassedOn.{event_of_row}

-- a cut of the order's lengths is one of the slice's
pub cut_of_lengths : (o : Clocks) (slice : SliceView) → FitsOrder o slice → (c : Cut) → length c ≡ length o → IsWithin c (lengths o) → IsCut slice.lens c
cut_of_lengths o slice fits c shaped within = record {
  size = shaped ∙ sym (length-lengths o) ∙ ap length (sym fits.shape);
  within = subst (λ (lens : List ℕ). IsWithin c lens) (sym fits.shape) within;
}

pub cut_is : (o : Clocks) (slice : SliceView) → FitsOrder o slice → (c : Cut) → IsConsistent o c → IsCut slice.lens c
cut_is o slice fits c consistent = cut_of_lengths o slice fits c consistent.shaped consistent.within

-- slices that fit and stand for one set are equal
pub one_slice : (o : Clocks) → (A : Cut → Type 0) → ((c : Cut) → A c → IsConsistent o c) → (s t : SliceView) → FitsOrder o s → FitsOrder o t
    → StandsFor o (slice_of s) A → StandsFor o (slice_of t) A → s ≡ t
one_slice o A members s t fits_s fits_t stands_s stands_t = made lens_is rows_is
  where
    made : s.lens ≡ t.lens → s.rows ≡ t.rows → s ≡ t
    made e f = λ j. record { lens = e j; rows = f j }

    lens_is : s.lens ≡ t.lens
    lens_is = fits_s.shape ∙ sym fits_t.shape

    count : length s.rows ≡ length t.rows
    count = fits_s.count ∙ ap (λ (lens : List ℕ). sum lens + 1) lens_is ∙ sym fits_t.count

    at_event : (row : ℕ) → 1 ≤ row → row ≤ sum (lengths o) → get_or s.rows row no_row ≡ get_or t.rows row no_row
    at_event row first last =
        let event = event_of_row (lengths o) row first last in
        let e = event.0 in
        let here = one_row o A members (slice_of s) (slice_of t) stands_s stands_t e.process e.position (event.1.first, event.1.last) in
        let s_row : sum (take e.process s.lens) + e.position ≡ row = ap (λ (lens : List ℕ). sum (take e.process lens) + e.position) fits_s.shape ∙ event.2 in
        let t_row : sum (take e.process t.lens) + e.position ≡ row = ap (λ (lens : List ℕ). sum (take e.process lens) + e.position) fits_t.shape ∙ event.2 in
        sym (ap (λ r. get_or s.rows r no_row) s_row) ∙ here ∙ ap (λ r. get_or t.rows r no_row) t_row

    each : (row : ℕ) → row < length s.rows → get_or s.rows row no_row ≡ get_or t.rows row no_row
    each zero h = one_bottom o A members (slice_of s) (slice_of t) stands_s stands_t
    each (suc row) h = at_event (suc row) (omega arith) (omega (arith, fits_s.count, ap sum fits_s.shape))

    rows_is : s.rows ≡ t.rows
    rows_is = ext_get_or no_row s.rows t.rows count each
