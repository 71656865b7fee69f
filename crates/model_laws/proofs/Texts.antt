-- The one text of a closed set.
use Rattle.std.proofs.Common.{◌≡◌, ℕ, zero, suc, ◌+◌, ◌<◌, ◌≤◌, ◌↔◌, List, [], ◌∷◌, ◌++◌, length, flat_map, Option, Some, None, sym, ap, ◌∙◌, subst, refl, inl, inr, arith}
use Rattle.std.specs.Prelude.{◌&&◌, nat_lt, if◌then◌else◌}
use Rattle.std.specs.List.{range_with_len}
use Rattle.std.proofs.lemmas.Bool.{cases_eq}
use Rattle.run_model.specs.Cut.{Cut, Clocks, count, IsWithin, max_cut, lengths}
use Rattle.run_model.specs.Consistent.{clock, IsEvent, IsOrder}
use Rattle.run_model.specs.Sublattice.{IsSublattice, IsGreatest, Having}
use Rattle.run_model.specs.Slice.{Slice, IsLeastOf, StandsFor, Edge, cut_of, previous, edge_into, edges_of, IsPrintedAs, SliceText, DenotedBy, IsTextOf}
use Rattle.run_model.proofs.Counts.{within_both, within_refl, within_trans, max_left, max_right}
use Rattle.run_model.proofs.Orders.{has_process}
use Rattle.run_model.proofs.SliceLemmas.{one_bottom, one_row, greatest_from_rows}
use Rattle.run_model.proofs.EdgeLemmas.{printed_denotes}

none_some : {X : Type 0} (x : X) → None ≡ Some x → ⊥
none_some x e = cc

some_is : {X : Type 0} (x y : X) → Some x ≡ Some y → x ≡ y
some_is x y e = cc

-- ---- the edges go by the rows at events

-- an edge by the row of its effect and the row before
abbrev edge_from : Clocks → Option Cut → Option Cut → ℕ → ℕ → ℕ → List Edge
edge_from o row before p a q =
    let b = count (cut_of row) q in
    if nat_lt (count (cut_of before) q) b && nat_lt (count (clock o p a) q) b
    then record { cause = q; cause_position = b; effect = p; effect_position = a } ∷ []
    else []

flat_same : {X : Type 0} (f g : ℕ → List X) (a n : ℕ) → ((k : ℕ) → a ≤ k → k < a + n → f k ≡ g k) → flat_map f (range_with_len a n) ≡ flat_map g (range_with_len a n)
flat_same f g a zero h = refl
flat_same f g a (suc n) h =
    let first = h a (omega arith) (omega arith) in
    let rest = flat_same f g (a + 1) n (λ k l m. h k (omega (arith, l)) (omega (arith, m))) in
    λ i. first i ++ rest i

abbrev SameRows : Clocks → Slice → Slice → Type 0
SameRows o s t = (i a : ℕ) → IsEvent (lengths o) i a → s.row i a ≡ t.row i a

previous_same : (o : Clocks) (s t : Slice) → s.bottom ≡ t.bottom → SameRows o s t → (p a : ℕ) → IsEvent (lengths o) p a → previous s p a ≡ previous t p a
previous_same o s t e rows p zero ev = e
previous_same o s t e rows p (suc zero) ev = e
previous_same o s t e rows p (suc (suc a)) ev = rows p (suc a) (omega arith, omega (arith, ev.1))

edges_same : (o : Clocks) (s t : Slice) → s.bottom ≡ t.bottom → SameRows o s t → (high : Cut) → IsWithin high (lengths o) → edges_of o s high ≡ edges_of o t high
unfolding edges_of
edges_same o s t e rows high within =
    flat_same (λ p. flat_map (λ a. flat_map (edge_into o s p a) (range_with_len 0 (length (cut_of (s.row p a))))) (range_with_len 1 (count high p)))
    (λ p. flat_map (λ a. flat_map (edge_into o t p a) (range_with_len 0 (length (cut_of (t.row p a))))) (range_with_len 1 (count high p)))
    0 (length high) (λ p l m.
    flat_same (λ a. flat_map (edge_into o s p a) (range_with_len 0 (length (cut_of (s.row p a))))) (λ a. flat_map (edge_into o t p a) (range_with_len 0 (length (cut_of (t.row p a))))) 1 (count high p) (λ a first last.
    let ev : IsEvent (lengths o) p a = (omega (arith, first), omega (arith, last, within p)) in
    let row = rows p a ev in
    let before = previous_same o s t e rows p a ev in
    λ i. flat_map (edge_from o (row i) (before i) p a) (range_with_len 0 (length (cut_of (row i))))))

-- ---- there is at most one text

one_cut : (o : Clocks) (A : Cut → Type 0) → IsSublattice o A → (c d : Cut) → A c → A d → IsWithin c d → IsWithin d c → c ≡ d
one_cut o A closed c d m n p q = within_both c d ((closed.consistent c m).shaped ∙ sym (closed.consistent d n).shaped) p q

one_printed : (o : Clocks) (A : Cut → Type 0) → IsSublattice o A → (b d : Cut × Cut) (es fs : List Edge) → IsPrintedAs o A b.0 b.1 es → IsPrintedAs o A d.0 d.1 fs → (b ≡ d) × (es ≡ fs)
one_printed o A closed b d es fs h k =
    let low = one_cut o A closed b.0 d.0 h.least.member k.least.member (h.least.least d.0 k.least.member) (k.least.least b.0 h.least.member) in
    let high = one_cut o A closed b.1 d.1 h.greatest.member k.greatest.member (k.greatest.greatest b.1 h.greatest.member) (h.greatest.greatest d.1 k.greatest.member) in
    let bottoms = one_bottom o A closed.consistent h.slice k.slice h.stands k.stands in
    let rows = one_row o A closed.consistent h.slice k.slice h.stands k.stands in
    let edges = edges_same o h.slice k.slice bottoms rows b.1 (closed.consistent b.1 h.greatest.member).within in
    (λ i. (low i, high i), h.listed ∙ edges ∙ ap (edges_of o k.slice) high ∙ sym k.listed)

one_text_from : (o : Clocks) (A : Cut → Type 0) → IsSublattice o A → (b d : Option (Cut × Cut)) (es fs : List Edge)
    → IsTextOf o A (record { bounds = b; edges = es }) → IsTextOf o A (record { bounds = d; edges = fs })
    → (b ≡ d) × (es ≡ fs)
one_text_from o A closed None None es fs h k = (refl, h.0 ∙ sym k.0)
one_text_from o A closed None (Some d) es fs h k = absurd (h.1 d.0 k.least.member)
one_text_from o A closed (Some b) None es fs h k = absurd (k.1 b.0 h.least.member)
one_text_from o A closed (Some b) (Some d) es fs h k = let e = one_printed o A closed b d es fs h k in (ap Some e.0, e.1)

pub one_text : (o : Clocks) (A : Cut → Type 0) → IsSublattice o A → (t u : SliceText) → IsTextOf o A t → IsTextOf o A u → t ≡ u
one_text o A closed t u h k =
    let e = one_text_from o A closed t.bounds u.bounds t.edges u.edges h k in
    λ i. record { bounds = e.0 i; edges = e.1 i }

-- ---- and there is one

-- a member that has the rows of some events
abbrev Covers : Slice → (Cut → Type 0) → Cut → (ℕ → ℕ → Type 0) → Type 0
Covers s A t some_events = (u : Cut) × A u × IsWithin t u × ((i a : ℕ) → some_events i a → (j : Cut) → s.row i a ≡ Some j → IsWithin j u)

row_member : (o : Clocks) (A : Cut → Type 0) (s : Slice) → StandsFor o s A → (i a : ℕ) → IsEvent (lengths o) i a → (j : Cut) → s.row i a ≡ Some j → A j
row_member o A s stands i a ev j e = (subst (IsLeastOf (Having A i a)) e (stands.rows i a ev)).member.0

abbrev Added : (Cut → Type 0) → Option Cut → Cut → Type 0
Added A k u = (v : Cut) × A v × IsWithin u v × ((j : Cut) → k ≡ Some j → IsWithin j v)

add_row : (o : Clocks) (A : Cut → Type 0) → IsSublattice o A → (k : Option Cut) → ((j : Cut) → k ≡ Some j → A j) → (u : Cut) → A u → Added A k u
add_row o A closed None members u m = (u, m, within_refl u, λ j e. absurd (none_some j e))
add_row o A closed (Some j) members u m = (max_cut u j, closed.has_max u j m (members j refl), max_left u j, λ l e. subst (λ x. IsWithin x (max_cut u j)) (some_is j l e) (max_right u j))

cover_process : (o : Clocks) (A : Cut → Type 0) → IsSublattice o A → (s : Slice) → StandsFor o s A → (i n : ℕ) → n ≤ count (lengths o) i → (t : Cut) → A t → Covers s A t (λ k a. (k ≡ i) × (0 < a) × (a ≤ n))
cover_process o A closed s stands i zero fits t m = (t, m, within_refl t, λ k a ev. absurd (omega (arith, ev.1, ev.2)))
cover_process o A closed s stands i (suc n) fits t m =
    let before = cover_process o A closed s stands i n (omega (arith, fits)) t m in
    let next = add_row o A closed (s.row i (suc n)) (row_member o A s stands i (suc n) (omega arith, fits)) before.0 before.1 in (
      next.0,
      next.1,
      within_trans t before.0 next.0 before.2 next.2,
      λ k a ev j e. elim (cases_eq a (suc n)) [
        | inl last ↦ next.3 j (ap (λ x. s.row i x) (sym last) ∙ ap (λ x. s.row x a) (sym ev.0) ∙ e)
        | inr ne ↦ within_trans j before.0 next.0 (before.3 k a (ev.0, ev.1, omega (arith, ev.2, ne)) j e) next.2
      ],
    )

cover_all : (o : Clocks) (A : Cut → Type 0) → IsSublattice o A → (s : Slice) → StandsFor o s A → (n : ℕ) → (t : Cut) → A t → Covers s A t (λ i a. (i < n) × IsEvent (lengths o) i a)
cover_all o A closed s stands zero t m = (t, m, within_refl t, λ k a ev. absurd (omega (arith, ev.0)))
cover_all o A closed s stands (suc n) t m =
    let before = cover_all o A closed s stands n t m in
    let next = cover_process o A closed s stands n (count (lengths o) n) (omega arith) before.0 before.1 in (
      next.0,
      next.1,
      within_trans t before.0 next.0 before.2 next.2,
      λ k a ev j e. elim (cases_eq k n) [
        | inl last ↦ next.3 k a (last, ev.1.0, subst (λ x. a ≤ count (lengths o) x) last ev.1.1) j e
        | inr ne ↦ within_trans j before.0 next.0 (before.3 k a (omega (arith, ev.0, ne), ev.1) j e) next.2
      ],
    )

greatest_there : (o : Clocks) (A : Cut → Type 0) → IsSublattice o A → (s : Slice) → StandsFor o s A → (low : Cut) → A low → (high : Cut) × IsGreatest A high
greatest_there o A closed s stands low m =
    let all = cover_all o A closed s stands (length (lengths o)) low m in
    (all.0, greatest_from_rows o A closed s stands all.0 all.1 (λ i a j ev e. all.3 i a (has_process (lengths o) i a ev, ev) j e))

text_by_bottom : (o : Clocks) (A : Cut → Type 0) → IsSublattice o A → (s : Slice) → StandsFor o s A → (k : Option Cut) → IsLeastOf A k → (text : SliceText) × IsTextOf o A text
text_by_bottom o A closed s stands None least = (record { bounds = None; edges = [] }, (refl, least))
text_by_bottom o A closed s stands (Some low) least =
    let high = greatest_there o A closed s stands low least.member in (
      record { bounds = Some (low, high.0); edges = edges_of o s high.0 },
      record {
        slice = s;
        stands = stands;
        least = least;
        greatest = high.1;
        listed = refl;
      },
    )

pub text_there : (o : Clocks) → IsOrder o → (A : Cut → Type 0) → IsSublattice o A → (s : Slice) → StandsFor o s A → (text : SliceText) × IsTextOf o A text
text_there o order A closed s stands = text_by_bottom o A closed s stands s.bottom stands.bottom

-- ---- it denotes the set

denotes_from : (o : Clocks) → IsOrder o → (A : Cut → Type 0) → IsSublattice o A → (b : Option (Cut × Cut)) (es : List Edge) → IsTextOf o A (record { bounds = b; edges = es }) → (c : Cut) → A c ↔ DenotedBy o (record { bounds = b; edges = es }) c
denotes_from o order A closed None es h c = (λ m. absurd (h.1 c m), λ n. absurd n)
denotes_from o order A closed (Some b) es h c = printed_denotes o order A closed b.0 b.1 es h c

pub text_denotes : (o : Clocks) → IsOrder o → (A : Cut → Type 0) → IsSublattice o A → (text : SliceText) → IsTextOf o A text → (c : Cut) → A c ↔ DenotedBy o text c
text_denotes o order A closed text h c = denotes_from o order A closed text.bounds text.edges h c
