-- What EF, AG and EG make of a closed set, by its greatest member and the rows of its slice.
use Rattle.std.proofs.Common.{◌≡◌, ℕ, ◌+◌, ◌<◌, ◌≤◌, ◌↔◌, List, [], ◌∷◌, length, Option, Some, sym, ap, ◌∙◌, subst, refl, inl, inr, arith, le_trans}
use Rattle.std.proofs.lemmas.Bool.{cases_lt, cases_eq}
use Rattle.run_model.specs.Cut.{Cut, Clocks, count, IsWithin, max_cut, with_next, lengths}
use Rattle.run_model.specs.Consistent.{clock, IsEvent, IsOrder, IsConsistent, PathIn, IsPath}
use Rattle.run_model.specs.Sublattice.{IsSublattice, IsLeast, IsGreatest, Having}
use Rattle.run_model.specs.Slice.{Slice, IsLeastOf, StandsFor, cut_of}
use Rattle.run_model.specs.Operators.{EfHolds, AgHolds, EgHolds, AgHoldsByRows, HasPairs}
use Rattle.run_model.proofs.Counts.{within_refl, within_trans, max_within, max_left, max_right, within_both, with_next_same, with_next_other}
use Rattle.run_model.proofs.Orders.{event_of_run, max_consistent, past_consistent, past_has, has_past, final_consistent}
use Rattle.run_model.proofs.Paths.{path_first, path_last, path_rises, path_wider, path_all, path_both, all_first, each_time_ends, each_time_from_ends}
use Rattle.meaning_laws.proofs.Climb.{IsClimbable, Apart, climb}
use Rattle.run_model.proofs.SliceLemmas.{least_within, least_of_member, has_within_up, cuts_member}

-- ---- a path leads from each consistent cut to each one that holds it

abbrev pub Below : Clocks → Cut → Cut → Type 0
Below o d c = IsConsistent o c × IsWithin c d

pub below_climbable : (o : Clocks) → IsOrder o → (d : Cut) → IsConsistent o d → IsClimbable o (Below o d) d (clock o)
below_climbable o order d k = record {
  consistent = λ c h. h.0;
  has_max = λ c e h l. (max_consistent o order c e h.0 l.0, max_within c e d h.1 l.1);
  top = record { member = (k, within_refl d); greatest = λ c h. h.1 };
  rows = λ i a ev. record {
    member = ((past_consistent o order i a (event_of_run o d k i a ev), has_past o order d k i a ev), past_has o order i a (event_of_run o d k i a ev));
    least = λ c h. has_past o order c h.0.0 i a (ev.0, h.1);
  };
}

pub below_apart : (o : Clocks) → IsOrder o → (c d : Cut) → IsConsistent o d → Apart d (clock o) c
below_apart o order c d k i a j b ev fv h l p q =
    let e = event_of_run o d k i a ev in
    let f = event_of_run o d k j b fv in
    order.loopless i a j b e (fv.0, le_trans (past_has o order j b f) (q j)) (le_trans (past_has o order i a e) (p i))

pub path_exists : (o : Clocks) → IsOrder o → (c d : Cut) → IsConsistent o c → IsConsistent o d → IsWithin c d → (es : List Cut) × IsPath o c es d
path_exists o order c d k l h =
    let p = climb o (Below o d) d (clock o) (below_climbable o order d l) c (k, h) (below_apart o order c d l) in
    (p.0, path_wider (Below o d) (IsConsistent o) (λ x m. m.0) c p.0 d p.1)

pub path_to_final : (o : Clocks) → IsOrder o → (c : Cut) → IsConsistent o c → (es : List Cut) × IsPath o c es (lengths o)
path_to_final o order c k = path_exists o order c (lengths o) k (final_consistent o order) k.within

-- ---- EF

pub some_time_within : (o : Clocks) → IsOrder o → (A : Cut → Type 0) → ((c : Cut) → A c → IsConsistent o c) → (t : Cut) → IsGreatest A t → (c : Cut) → IsConsistent o c → EfHolds o A c ↔ IsWithin c t
some_time_within o order A consistent t top c k = (
  λ w. within_trans c w.1 t (path_rises (IsConsistent o) c w.0 w.1 w.2) (top.greatest w.1 w.3),
  λ h. let p = path_exists o order c t k (consistent t top.member) h in (p.0, t, p.1, top.member),
)

-- ---- AG

pub each_time_holds : (o : Clocks) → IsOrder o → (A : Cut → Type 0) → (s : Slice) → StandsFor o s A → (c : Cut) → IsConsistent o c → AgHolds o A c → AgHoldsByRows o s c
each_time_holds o order A s stands c k each =
    let ends = each_time_ends o A c each in
    record {
      bottom = least_within A s.bottom c stands.bottom (ends [] c (k, refl));
      rows = λ i a ev.
          let m = max_cut c (clock o i a) in
          let p = path_exists o order c m k (max_consistent o order c (clock o i a) k (past_consistent o order i a ev)) (max_left c (clock o i a)) in
          least_within (Having A i a) (s.row i a) m (stands.rows i a ev) (ends p.0 m p.1, le_trans (past_has o order i a ev) (max_right c (clock o i a) i));
    }

pub holds_each_time : (o : Clocks) → IsOrder o → (A : Cut → Type 0) → IsSublattice o A → (s : Slice) → StandsFor o s A → (c : Cut) → AgHoldsByRows o s c → AgHolds o A c
holds_each_time o order A closed s stands c holds = each_time_from_ends o A c (λ es d p.
    let up = path_rises (IsConsistent o) c es d p in
    let k = path_last (IsConsistent o) c es d p in
    cuts_member o A closed s stands d (record {
      consistent = k;
      from_bottom = has_within_up s.bottom c d up holds.bottom;
      rows = λ i a ev. has_within_up (s.row i a) (max_cut c (clock o i a)) d (max_within c (clock o i a) d up (has_past o order d k i a ev)) (holds.rows i a (event_of_run o d k i a ev));
    }))

pub each_time_by_rows : (o : Clocks) → IsOrder o → (A : Cut → Type 0) → IsSublattice o A → (s : Slice) → StandsFor o s A → (c : Cut) → IsConsistent o c → AgHolds o A c ↔ AgHoldsByRows o s c
each_time_by_rows o order A closed s stands c k = (each_time_holds o order A s stands c k, holds_each_time o order A closed s stands c)

-- AG is true nowhere, where the final cut is not in the set
pub each_time_final : (o : Clocks) → IsOrder o → (A : Cut → Type 0) → (c : Cut) → IsConsistent o c → AgHolds o A c → A (lengths o)
each_time_final o order A c k each =
    let p = path_to_final o order c k in
    each_time_ends o A c each p.0 (lengths o) p.1

pub holds_up : (o : Clocks) (s : Slice) (c d : Cut) → IsWithin c d → AgHoldsByRows o s c → AgHoldsByRows o s d
holds_up o s c d up h = record {
  bottom = has_within_up s.bottom c d up h.bottom;
  rows = λ i a ev. has_within_up (s.row i a) (max_cut c (clock o i a)) (max_cut d (clock o i a)) (max_within c (clock o i a) (max_cut d (clock o i a)) (within_trans c d (max_cut d (clock o i a)) up (max_left d (clock o i a))) (max_right d (clock o i a))) (h.rows i a ev);
}

-- ---- EG

pub staying_last : (o : Clocks) (A : Cut → Type 0) (c : Cut) → EgHolds o A c → A (lengths o)
staying_last o A c w = path_last A c w.0 (lengths o) (path_both A (IsConsistent o) c w.0 (lengths o) w.1 w.2)

-- a step of a path within A, where each member has both of two events or neither
both_step : (A : Cut → Type 0) (x : Cut) → A x → (k : ℕ) → k < length x → (i a j b : ℕ) → ((i ≡ j) × (a ≡ b) → ⊥) → ((c : Cut) → A c → (a ≤ count c i) ↔ (b ≤ count c j)) → a ≤ count (with_next x k) i → b ≤ count (with_next x k) j → a ≤ count x i
both_step A x member k there i a j b differ both h l = elim (cases_lt (count x i) a) [
  | inr has ↦ has
  | inl lack ↦ elim (cases_eq i k) [
    | inr ne ↦ omega (arith, h, with_next_other x k i ne)
    | inl at_k ↦
        let a_is : a ≡ count x i + 1 = omega (arith, lack, h, subst (λ y. count (with_next x y) i ≡ count x i + 1) at_k (with_next_same x i (subst (λ y. y < length x) (sym at_k) there))) in
        let has_b : b ≤ count x j = elim (cases_eq j k) [
          | inr ne ↦ omega (arith, l, with_next_other x k j ne)
          | inl at ↦
              let one : i ≡ j = at_k ∙ sym at in
              let b_le : b ≤ count x j + 1 = omega (arith, l, subst (λ y. count (with_next x y) j ≡ count x j + 1) at (with_next_same x j (subst (λ y. y < length x) (sym at) there))) in
              let counts : count x i ≡ count x j = ap (count x) one in
              elim (cases_eq a b) [
                | inl e ↦ absurd (differ (one, e))
                | inr ne ↦ omega (arith, ne, b_le, a_is, counts)
              ]
        ] in
        (both x member).1 has_b
  ]
]

both_along : (o : Clocks) (A : Cut → Type 0) (i a j b : ℕ) → IsEvent (lengths o) i a → IsEvent (lengths o) j b → ((i ≡ j) × (a ≡ b) → ⊥) → ((c : Cut) → A c → (a ≤ count c i) ↔ (b ≤ count c j)) → (x : Cut) (es : List Cut) → PathIn A x es (lengths o) → a ≤ count x i
both_along o A i a j b ev fv differ both x [] p = subst (λ y. a ≤ count y i) (sym p.1) ev.1
both_along o A i a j b ev fv differ both x (e ∷ es) p =
    let k = p.1.0 in
    let later = both_along o A i a j b ev fv differ both e es p.2 in
    let h : a ≤ count (with_next x k) i = subst (λ y. a ≤ count y i) p.1.2 later in
    let l : b ≤ count (with_next x k) j = subst (λ y. b ≤ count y j) p.1.2 ((both e (path_first A e es (lengths o) p.2)).0 later) in
    both_step A x p.0 k p.1.1 i a j b differ both h l

-- two events of which each member has both or neither: no path within the set leads from a cut that lacks them to the final cut
pub pair_refutes : (o : Clocks) (A : Cut → Type 0) (i a j b : ℕ) → IsEvent (lengths o) i a → IsEvent (lengths o) j b → ((i ≡ j) × (a ≡ b) → ⊥) → ((c : Cut) → A c → (a ≤ count c i) ↔ (b ≤ count c j)) → (c : Cut) → count c i < a → EgHolds o A c → ⊥
pair_refutes o A i a j b ev fv differ both c lack w = omega (arith, lack, both_along o A i a j b ev fv differ both c w.0 (path_both A (IsConsistent o) c w.0 (lengths o) w.1 w.2))

-- of two events that share a row, each member has both or neither
has_other : (A : Cut → Type 0) (k l : Option Cut) (i a j b : ℕ) → IsLeastOf (Having A i a) k → IsLeastOf (Having A j b) l → k ≡ l → (c : Cut) → A c → a ≤ count c i → b ≤ count c j
has_other A k l i a j b least other same c member h =
    let r = least_of_member (Having A i a) k c least (member, h) in
    let second : IsLeastOf (Having A j b) (Some r.0) = subst (IsLeastOf (Having A j b)) (sym same ∙ r.1) other in
    le_trans second.member.1 (r.3 j)

pub rows_both : (o : Clocks) (A : Cut → Type 0) (s : Slice) → StandsFor o s A → (i a j b : ℕ) → IsEvent (lengths o) i a → IsEvent (lengths o) j b → s.row i a ≡ s.row j b → (c : Cut) → A c → (a ≤ count c i) ↔ (b ≤ count c j)
rows_both o A s stands i a j b ev fv same c member = (
  has_other A (s.row i a) (s.row j b) i a j b (stands.rows i a ev) (stands.rows j b fv) same c member,
  has_other A (s.row j b) (s.row i a) j b i a (stands.rows j b fv) (stands.rows i a ev) (sym same) c member,
)

pub staying_pairs : (o : Clocks) (A : Cut → Type 0) (s : Slice) → StandsFor o s A → (c : Cut) → EgHolds o A c → A c × HasPairs o s c
staying_pairs o A s stands c w = (
  all_first A c w.0 w.2,
  λ i a j b ev fv same differ. both_along o A i a j b ev fv differ (rows_both o A s stands i a j b ev fv same) c w.0 (path_both A (IsConsistent o) c w.0 (lengths o) w.1 w.2),
)

-- the rows as cuts, where the final cut is in the set
row_there : (o : Clocks) (A : Cut → Type 0) (s : Slice) → StandsFor o s A → A (lengths o) → (i a : ℕ) → IsEvent (lengths o) i a → IsLeast (Having A i a) (cut_of (s.row i a)) × (s.row i a ≡ Some (cut_of (s.row i a)))
row_there o A s stands final i a ev =
    let r = least_of_member (Having A i a) (s.row i a) (lengths o) (stands.rows i a ev) (final, ev.1) in
    let same : r.0 ≡ cut_of (s.row i a) = sym (ap cut_of r.1) in
    (subst (IsLeast (Having A i a)) same r.2, r.1 ∙ ap Some same)

pub set_climbable : (o : Clocks) (A : Cut → Type 0) → IsSublattice o A → (s : Slice) → StandsFor o s A → A (lengths o) → IsClimbable o A (lengths o) (λ i a. cut_of (s.row i a))
set_climbable o A closed s stands final = record {
  consistent = closed.consistent;
  has_max = closed.has_max;
  top = record { member = final; greatest = λ c h. (closed.consistent c h).within };
  rows = λ i a ev. (row_there o A s stands final i a ev).0;
}

pub pairs_apart : (o : Clocks) (A : Cut → Type 0) → IsSublattice o A → (s : Slice) → StandsFor o s A → A (lengths o) → (c : Cut) → HasPairs o s c → Apart (lengths o) (λ i a. cut_of (s.row i a)) c
pairs_apart o A closed s stands final c pairs i a j b ev fv h l p q =
    let r = row_there o A s stands final i a ev in
    let u = row_there o A s stands final j b fv in
    let one = within_both (cut_of (s.row i a)) (cut_of (s.row j b)) ((closed.consistent (cut_of (s.row i a)) r.0.member.0).shaped ∙ sym (closed.consistent (cut_of (s.row j b)) u.0.member.0).shaped) p q in
    let same : s.row i a ≡ s.row j b = r.1 ∙ ap Some one ∙ sym u.1 in
    elim (cases_eq i j) [
      | inl e ↦ elim (cases_eq a b) [
        | inl f ↦ (e, f)
        | inr ne ↦ absurd (omega (arith, pairs i a j b ev fv same (λ d. ne d.1), h))
      ]
      | inr ne ↦ absurd (omega (arith, pairs i a j b ev fv same (λ d. ne d.0), h))
    ]

pub pairs_staying : (o : Clocks) (A : Cut → Type 0) → IsSublattice o A → (s : Slice) → StandsFor o s A → A (lengths o) → (c : Cut) → A c → HasPairs o s c → EgHolds o A c
pairs_staying o A closed s stands final c member pairs =
    let p = climb o A (lengths o) (λ i a. cut_of (s.row i a)) (set_climbable o A closed s stands final) c member (pairs_apart o A closed s stands final c pairs) in
    (p.0, path_wider A (IsConsistent o) closed.consistent c p.0 (lengths o) p.1, path_all A c p.0 (lengths o) p.1)

pub staying_by_rows : (o : Clocks) (A : Cut → Type 0) → IsSublattice o A → (s : Slice) → StandsFor o s A → A (lengths o) → (c : Cut) → EgHolds o A c ↔ (A c × HasPairs o s c)
staying_by_rows o A closed s stands final c = (staying_pairs o A s stands c, λ h. pairs_staying o A closed s stands final c h.0 h.1)
