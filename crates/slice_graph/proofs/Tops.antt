-- The maximum of the rows of a slice is its greatest cut.
use Rattle.std.proofs.Common.{◌≡◌, ℕ, zero, suc, ◌+◌, ◌≤◌, List, [], ◌∷◌, length, get_or, take, replicate, sum, Option, Some, None, refl, sym, ap, ◌∙◌, subst, arith, inl, inr}
use Rattle.std.proofs.lemmas.Option.{none-some, same_Some}
use Rattle.std.proofs.lemmas.Bool.{cases_lt}
use Rattle.std.proofs.lemmas.List.{length-replicate, get_or_past}
use Rattle.pota_base.specs.Shape.{row_of}
use Rattle.run_model.specs.Cut.{Cut, Clocks, count, IsWithin, max_cut, lengths}
use Rattle.run_model.specs.Consistent.{IsOrder, IsEvent}
use Rattle.run_model.specs.Sublattice.{IsSublattice, IsGreatest, Having}
use Rattle.run_model.specs.Slice.{IsLeastOf, StandsFor, Cuts}
use Rattle.run_model.proofs.Counts.{within_both, within_refl, within_trans, max_left, max_right, max_absorbs, length-lengths}
use Rattle.run_model.proofs.SliceLemmas.{cuts_closed, exact_slice, greatest_from_rows, least_of_member}
use Rattle.slice_graph.specs.Views.{SliceView, slice_of, joined_onto, joined_rows, no_row}
use Rattle.slice_graph.specs.Fitting.{FitsOrder}
use Rattle.slice_graph.proofs.Building.{fits_of_set}
use Rattle.slice_graph.proofs.Events.{event_of_row}

-- ---- one row after the other

-- ---- what the maximum has

from_first : (t : Cut) (rows : List (Option Cut)) → IsWithin t (joined_onto t rows)
from_first t [] = within_refl t
from_first t (None ∷ rows) = from_first t rows
from_first t (Some c ∷ rows) = within_trans t (max_cut c t) (joined_onto (max_cut c t) rows) (max_right c t) (from_first (max_cut c t) rows)

row_joined : (t : Cut) (rows : List (Option Cut)) (r : ℕ) (c : Cut) → get_or rows r no_row ≡ Some c → IsWithin c (joined_onto t rows)
row_joined t [] r c is = absurd (none-some c is)
row_joined t (None ∷ rows) (suc r) c is = row_joined t rows r c is
row_joined t (Some d ∷ rows) (suc r) c is = row_joined (max_cut d t) rows r c is
row_joined t (None ∷ rows) zero c is = absurd (none-some c is)
row_joined t (Some d ∷ rows) zero c is = subst (λ (x : Cut). IsWithin x (joined_onto (max_cut d t) rows)) (same_Some d c is)
    (within_trans d (max_cut d t) (joined_onto (max_cut d t) rows) (max_left d t) (from_first (max_cut d t) rows))

-- the maximum of members is a member
member_joined : (A : Cut → Type 0) → ((c d : Cut) → A c → A d → A (max_cut c d)) → (t : Cut) (rows : List (Option Cut)) → A t
    → ((r : ℕ) (c : Cut) → get_or rows r no_row ≡ Some c → A c) → A (joined_onto t rows)
member_joined A closed t [] h each = h
member_joined A closed t (None ∷ rows) h each = member_joined A closed t rows h (λ r. each (suc r))
member_joined A closed t (Some d ∷ rows) h each = member_joined A closed (max_cut d t) rows (closed d t (each 0 d refl) h) (λ r. each (suc r))

-- ---- the greatest cut

-- the cut of a row is a cut of the slice
row_member : (o : Clocks) (v : SliceView) → FitsOrder o v → (r : ℕ) (c : Cut) → get_or v.rows r no_row ≡ Some c → Cuts o (slice_of v) c
row_member o v fits zero c is = member (get_or v.rows 0 no_row) fits.stands.bottom is
  where
    member : (k : Option Cut) → IsLeastOf (Cuts o (slice_of v)) k → k ≡ Some c → Cuts o (slice_of v) c
    member None l e = absurd (none-some c e)
    member (Some d) l e = subst (Cuts o (slice_of v)) (same_Some d c e) l.member
row_member o v fits (suc r) c is =
    let there : suc r ≤ sum v.lens = elim (cases_lt (sum v.lens) (suc r)) [
      | inr le ↦ le
      | inl past ↦ absurd (none-some c (sym (get_or_past v.rows (suc r) no_row (omega (arith, fits.count))) ∙ is))
    ] in
    let e = event_of_row v.lens (suc r) (omega arith) there in
    let at : get_or v.rows (row_of v.lens e.0) no_row ≡ Some c = ap (λ (n : ℕ). get_or v.rows n no_row) e.2 ∙ is in
    let ev : IsEvent (lengths o) (e.0).process (e.0).position = (omega (arith, (e.1).first), subst (λ (lens : List ℕ). (e.0).position ≤ count lens (e.0).process) fits.shape (e.1).last) in
    member (get_or v.rows (row_of v.lens e.0) no_row) (e.0).process (e.0).position (fits.stands.rows (e.0).process (e.0).position ev) at
  where
    member : (k : Option Cut) (i a : ℕ) → IsLeastOf (Having (Cuts o (slice_of v)) i a) k → k ≡ Some c → Cuts o (slice_of v) c
    member None i a l e = absurd (none-some c e)
    member (Some d) i a l e = subst (Cuts o (slice_of v)) (same_Some d c e) l.member.0

zeros : (n i : ℕ) → count (replicate n 0) i ≡ 0
zeros zero i = refl
zeros (suc n) zero = refl
zeros (suc n) (suc i) = zeros n i

with_zeros : (n : ℕ) (c : Cut) → length c ≡ n → max_cut c (replicate n 0) ≡ c
with_zeros n c size = max_absorbs c (replicate n 0) (omega (arith, length-replicate {A = ℕ} n 0)) (λ i. omega (arith, zeros n i))

top_member : (o : Clocks) → IsOrder o → (v : SliceView) → FitsOrder o v → (low : Cut) → (slice_of v).bottom ≡ Some low → Cuts o (slice_of v) (joined_rows v)
top_member o order v fits low is = from v.rows is (row_member o v fits)
  where
    from : (rows : List (Option Cut)) → get_or rows 0 no_row ≡ Some low → ((r : ℕ) (c : Cut) → get_or rows r no_row ≡ Some c → Cuts o (slice_of v) c)
        → Cuts o (slice_of v) (joined_onto (replicate (length v.lens) 0) rows)
    from [] e each = absurd (none-some low e)
    from (None ∷ rows) e each = absurd (none-some low e)
    from (Some d ∷ rows) e each =
        let member = each 0 d refl in
        let size : length d ≡ length v.lens = member.consistent.shaped ∙ sym (length-lengths o) ∙ sym (ap length fits.shape) in
        subst (λ (t : Cut). Cuts o (slice_of v) (joined_onto t rows)) (sym (with_zeros (length v.lens) d size))
        (member_joined (Cuts o (slice_of v)) (cuts_closed o order (slice_of v)).has_max d rows member (λ r. each (suc r)))

pub top_greatest : (o : Clocks) → IsOrder o → (v : SliceView) → FitsOrder o v → (low : Cut) → (slice_of v).bottom ≡ Some low → IsGreatest (Cuts o (slice_of v)) (joined_rows v)
top_greatest o order v fits low is = greatest_from_rows o (Cuts o (slice_of v)) (cuts_closed o order (slice_of v)) (slice_of v) fits.stands (joined_rows v)
    (top_member o order v fits low is)
    (λ i a j ev at. row_joined (replicate (length v.lens) 0) v.rows (sum (take i v.lens) + a) j at)

-- what the greatest cut is where the slice has a bottom
pub top_there : (o : Clocks) → IsOrder o → (v : SliceView) → FitsOrder o v → (t : Cut) → t ≡ joined_rows v → ((slice_of v).bottom ≡ None → ⊥) → IsGreatest (Cuts o (slice_of v)) t
top_there o order v fits t is some = cases (slice_of v).bottom refl
  where
    cases : (k : Option Cut) → (slice_of v).bottom ≡ k → IsGreatest (Cuts o (slice_of v)) t
    cases None e = absurd (some e)
    cases (Some low) e = subst (IsGreatest (Cuts o (slice_of v))) (sym is) (top_greatest o order v fits low e)

-- the greatest cut of a set that the slice stands for is the maximum of its rows
pub top_of_set : (o : Clocks) → IsOrder o → (A : Cut → Type 0) → IsSublattice o A → (v : SliceView) → v.lens ≡ lengths o → length v.rows ≡ sum v.lens + 1 → StandsFor o (slice_of v) A
    → (t : Cut) → IsGreatest A t → t ≡ joined_rows v
top_of_set o order A closed v shape count stands t greatest =
    let there = least_of_member A (slice_of v).bottom t stands.bottom greatest.member in
    let joined = top_greatest o order v (fits_of_set o v A closed shape count stands) there.0 there.1 in
    let exact = exact_slice o A closed (slice_of v) stands in
    within_both t (joined_rows v) ((closed.consistent t greatest.member).shaped ∙ sym joined.member.consistent.shaped)
    (joined.greatest t ((exact t).0 greatest.member))
    (greatest.greatest (joined_rows v) ((exact (joined_rows v)).1 joined.member))
