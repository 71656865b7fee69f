-- A slice's cuts by the rows of the last events that they have.
use Rattle.std.proofs.Common.{◌≡◌, ℕ, zero, suc, ◌<◌, ◌≤◌, ◌↔◌, List, length, Option, Some, None, refl, sym, ap, ◌∙◌, subst, arith, inl, inr, le_refl, le_trans}
use Rattle.std.proofs.lemmas.Bool.{cases_lt}
use Rattle.run_model.specs.Cut.{Cut, Clocks, count, IsWithin, lengths}
use Rattle.run_model.specs.Consistent.{IsConsistent, clock}
use Rattle.run_model.specs.Sublattice.{Having}
use Rattle.run_model.specs.Slice.{Slice, HasWithin, Cuts, Fits}
use Rattle.run_model.proofs.Counts.{within_refl, within_trans, count_past, length-lengths}
use Rattle.run_model.proofs.Orders.{has_process}
use Rattle.run_model.proofs.SliceLemmas.{least_there, has_within_up}
use Rattle.slice_graph.specs.Views.{SliceView, slice_of, last_row, IsCut, IsRow, HasLasts}
use Rattle.slice_graph.specs.Words.{filled, row_words}
use Rattle.slice_graph.specs.Fitting.{FitsOrder}
use Rattle.slice_graph.proofs.Words.{count-past_ends, filled_most}

-- a cut of the slice between the row of the last of the first a events and c
pub last_cut : (o : Clocks) (s : Slice) → Fits o s → (c : Cut) (i a : ℕ) → a ≤ count (lengths o) i → HasWithin (last_row s i a) c
    → (j : Cut) × (last_row s i a ≡ Some j) × Cuts o s j × (a ≤ count j i) × IsWithin j c
last_cut o s fits c i zero ev h =
    let r = least_there (Cuts o s) s.bottom c fits.bottom h in
    (r.0, r.1, r.2.member, omega arith, r.3)
last_cut o s fits c i (suc a) ev h =
    let r = least_there (Having (Cuts o s) i (suc a)) (s.row i (suc a)) c (fits.rows i (suc a) (omega arith, ev)) h in
    (r.0, r.1, r.2.member.0, r.2.member.1, r.3)

-- a cut of the slice holds the row of the last of the first events that it has
pub cut_last : (o : Clocks) (s : Slice) (c : Cut) → Cuts o s c → (i a : ℕ) → a ≤ count c i → HasWithin (last_row s i a) c
cut_last o s c cut i zero h = cut.from_bottom
cut_last o s c cut i (suc a) h = cut.rows i (suc a) (omega arith, h)

pub cuts_lasts : (o : Clocks) (v : SliceView) (c : Cut) → Cuts o (slice_of v) c → HasLasts v c
cuts_lasts o v c cut i lt = cut_last o (slice_of v) c cut i (count c i) (le_refl (count c i))

-- what holds the rows of its last events is consistent
pub lasts_consistent : (o : Clocks) (v : SliceView) → FitsOrder o v → (c : Cut) → IsCut v.lens c → HasLasts v c → IsConsistent o c
lasts_consistent o v fits c h lasts = record {
  shaped = h.size ∙ ap length fits.shape ∙ length-lengths o;
  within = within;
  pasts = λ i pos.
      let there : i < length c = elim (cases_lt i (length c)) [ inl l ↦ l | inr g ↦ absurd (omega (arith, count_past c i g)) ] in
      let r = last_cut o (slice_of v) fits.stands c i (count c i) (within i) (lasts i (omega (arith, h.size))) in
      let same : count r.0 i ≡ count c i = omega (arith, r.3, r.4 i) in
      within_trans (clock o i (count c i)) r.0 c (subst (λ (a : ℕ). IsWithin (clock o i a) r.0) same (r.2.consistent.pasts i (omega (arith, pos)))) r.4;
}
  where
    within : IsWithin c (lengths o)
    within i = subst (λ (lens : List ℕ). count c i ≤ count lens i) fits.shape (h.within i)

-- what holds the rows of its last events is a cut of the slice
pub lasts_cuts : (o : Clocks) (v : SliceView) → FitsOrder o v → 1 ≤ length v.lens → (c : Cut) → IsCut v.lens c → HasLasts v c → Cuts o (slice_of v) c
lasts_cuts o v fits some c h lasts = record {
  consistent = consistent;
  from_bottom =
      let r = at 0 (omega arith) in
      has_within_up (slice_of v).bottom r.0 c r.4 r.2.from_bottom;
  rows = λ i a ev.
      let r = at i (omega (arith, h.size, has_process c i a ev)) in
      has_within_up ((slice_of v).row i a) r.0 c r.4 (r.2.rows i a (ev.0, le_trans ev.1 r.3));
}
  where
    consistent : IsConsistent o c
    consistent = lasts_consistent o v fits c h lasts

    at : (i : ℕ) → i < length v.lens → (j : Cut) × (last_row (slice_of v) i (count c i) ≡ Some j) × Cuts o (slice_of v) j × (count c i ≤ count j i) × IsWithin j c
    at i lt = last_cut o (slice_of v) fits.stands c i (count c i) (consistent.within i) (lasts i lt)

pub has_lasts : (o : Clocks) (v : SliceView) → FitsOrder o v → 1 ≤ length v.lens → (c : Cut) → IsCut v.lens c → HasLasts v c ↔ Cuts o (slice_of v) c
has_lasts o v fits some c h = (lasts_cuts o v fits some c h, cuts_lasts o v c)

-- the words of a process's rows never fall
pub words_rise : (o : Clocks) (v : SliceView) → FitsOrder o v → (i x y j : ℕ) → x ≤ y → y ≤ count (lengths o) i → j < length v.lens
    → IsRow v.lens (last_row (slice_of v) i x) → count (row_words v i x) j ≤ count (row_words v i y) j
words_rise o v fits i x y j up there process row = later (last_row (slice_of v) i y) refl
  where
    earlier : (c : Cut) → HasWithin (last_row (slice_of v) i x) c → count (filled v.lens (last_row (slice_of v) i x)) j ≤ count c j
    earlier c h = elim (last_row (slice_of v) i x) as (λ k. HasWithin k c → count (filled v.lens k) j ≤ count c j) [ None ↦ λ no'. absurd no' | Some d ↦ λ within. within j ] h

    later : (k : Option Cut) → last_row (slice_of v) i y ≡ k → count (row_words v i x) j ≤ count (filled v.lens (last_row (slice_of v) i y)) j
    later None is = subst (λ (k : Option Cut). count (row_words v i x) j ≤ count (filled v.lens k) j) (sym is)
        (omega (arith, filled_most v.lens (last_row (slice_of v) i x) row j, count-past_ends v.lens j process))
    later (Some c) is =
        let r = last_cut o (slice_of v) fits.stands c i y there (subst (λ (k : Option Cut). HasWithin k c) (sym is) (within_refl c)) in
        let holds : HasWithin (last_row (slice_of v) i x) c = has_within_up (last_row (slice_of v) i x) r.0 c r.4 (cut_last o (slice_of v) r.0 r.2 i x (le_trans up r.3)) in
        subst (λ (k : Option Cut). count (row_words v i x) j ≤ count (filled v.lens k) j) (sym is) (earlier c holds)
