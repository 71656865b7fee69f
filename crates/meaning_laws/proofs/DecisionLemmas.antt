-- Truth is decided at each consistent cut: there are finitely many cuts.
use Rattle.std.proofs.Common.{◌≡◌, ℕ, zero, suc, ◌+◌, ◌<◌, ◌≤◌, ◌⊎◌, Bool, true, false, List, [], ◌∷◌, length, pos, ◌-ℤ◌, sym, ap, ◌∙◌, subst, refl, inl, inr, arith, le_refl}
use Rattle.std.proofs.lemmas.Bool.{cases_lt, cases_eq, false≢true}
use Rattle.run_model.specs.Cut.{Cut, Clocks, count, IsWithin, with_next, lengths}
use Rattle.run_model.specs.Run.{Run}
use Rattle.run_model.specs.Consistent.{clock, IsOrder, IsConsistent, IsPath}
use Rattle.run_model.specs.Sublattice.{AllIn}
use Rattle.run_model.specs.Operators.{EfHolds, AgHolds, EgHolds, ExHolds}
use Rattle.run_model.specs.Formula.{Ef, Ag, Eg, Af, Ax, Formula, Truth, Comparison, Watched, InTransit, Empty, Difference, Not, And, Or, Temporal, Next, Until, Formulas, Nil, Cons}
use Rattle.run_model.specs.Meaning.{compares, value_at, side_at, in_transit, Sat, SatAll, SatSome}
use Rattle.run_model.proofs.Counts.{count_past, within_refl, within_both, search_below, total, total_below, with_next_above, with_next_same, length-lengths}
use Rattle.run_model.proofs.Orders.{has_process}
use Rattle.run_model.proofs.Paths.{path_first, path_last, path_rises, all_first, each_time_ends, each_time_from_ends, next_time_from, next_time_lands}
use Rattle.meaning_laws.proofs.OperatorLemmas.{path_exists}

abbrev pub Decided : Type 0 → Type 0
Decided P = P ⊎ (P → ⊥)

pub decide_true : (b : Bool) → Decided (b ≡ true)
decide_true true = inl refl
decide_true false = inr (λ e. absurd (false≢true e))

pub decide_within : (c d : Cut) → Decided (IsWithin c d)
decide_within c d = elim (search_below (λ j. count d j < count c j) (λ j. count c j ≤ count d j) (λ j. cases_lt (count d j) (count c j)) (length c)) [
  | inl w ↦ inr (λ h. absurd (omega (arith, w.2, h w.0)))
  | inr all ↦ inl (λ j. elim (cases_lt j (length c)) [ inl l ↦ all j l | inr g ↦ omega (arith, count_past c j g) ])
]

abbrev Past : Clocks → Cut → ℕ → Type 0
Past o c i = 0 < count c i → IsWithin (clock o i (count c i)) c

decide_past : (o : Clocks) (c : Cut) (i : ℕ) → (Past o c i → ⊥) ⊎ Past o c i
decide_past o c i = elim (cases_lt 0 (count c i)) [
  | inr none ↦ inr (λ pos'. absurd (omega (arith, none, pos')))
  | inl some' ↦ elim (decide_within (clock o i (count c i)) c) [
    | inl h ↦ inr (λ pos'. h)
    | inr no' ↦ inl (λ h. no' (h some'))
  ]
]

pub decide_consistent : (o : Clocks) (c : Cut) → Decided (IsConsistent o c)
decide_consistent o c = elim (cases_eq (length c) (length o)) [
  | inr ne ↦ inr (λ k. ne k.shaped)
  | inl e ↦ elim (decide_within c (lengths o)) [
    | inr no' ↦ inr (λ k. no' k.within)
    | inl h ↦ elim (search_below (λ i. Past o c i → ⊥) (Past o c) (decide_past o c) (length c)) [
      | inl w ↦ inr (λ k. w.2 (k.pasts w.0))
      | inr all ↦ inl (record {
        shaped = e;
        within = h;
        pasts = λ i p. all i (has_process c i (count c i) (p, le_refl (count c i))) p;
      })
    ]
  ]
]

only_empty : (Q : Cut → Type 0) → Q [] → (c : Cut) → length c ≡ 0 → Q c
only_empty Q q [] e = q
only_empty Q q (x ∷ c) e = absurd (omega (arith, e))

first_below : (n : ℕ) (t : Cut) (Q : Cut → Type 0) → ((x : ℕ) → x < suc n → (c : Cut) → length c ≡ length t → IsWithin c t → Q (x ∷ c)) → (c : Cut) → length c ≡ suc (length t) → IsWithin c (n ∷ t) → Q c
first_below n t Q h [] e w = absurd (omega (arith, e))
first_below n t Q h (x ∷ c) e w = h x (omega (arith, w 0)) c (omega (arith, e)) (λ i. w (suc i))

-- a cut within t has the one property, or all have the other
pub search_cuts : (t : Cut) (P Q : Cut → Type 0) → ((c : Cut) → P c ⊎ Q c) → ((c : Cut) × P c) ⊎ ((c : Cut) → length c ≡ length t → IsWithin c t → Q c)
search_cuts [] P Q d = elim (d []) [
  | inl p ↦ inl ([], p)
  | inr q ↦ inr (λ c e h. only_empty Q q c e)
]
search_cuts (n ∷ t) P Q d = elim (search_below (λ x. (c : Cut) × P (x ∷ c)) (λ x. (c : Cut) → length c ≡ length t → IsWithin c t → Q (x ∷ c)) (λ x. search_cuts t (λ c. P (x ∷ c)) (λ c. Q (x ∷ c)) (λ c. d (x ∷ c))) (suc n)) [
  | inl w ↦ inl (w.0 ∷ w.2.0, w.2.1)
  | inr all ↦ inr (λ c e h. first_below n t Q all c e h)
]

-- ---- cuts later than c

abbrev Later : Clocks → (Cut → Type 0) → Cut → Type 0
Later o M c = (d : Cut) × IsConsistent o d × IsWithin c d × M d

abbrev EachLater : Clocks → (Cut → Type 0) → Cut → Type 0
EachLater o N c = (d : Cut) → IsConsistent o d → IsWithin c d → N d

later_at : (o : Clocks) (M N : Cut → Type 0) → ((d : Cut) → IsConsistent o d → M d ⊎ N d) → (c d : Cut) → (IsConsistent o d × IsWithin c d × M d) ⊎ (IsConsistent o d → IsWithin c d → N d)
later_at o M N decide c d = elim (decide_consistent o d) [
  | inr no' ↦ inr (λ k. absurd (no' k))
  | inl k ↦ elim (decide_within c d) [
    | inr no' ↦ inr (λ k h. absurd (no' h))
    | inl h ↦ elim (decide d k) [
      | inl m ↦ inl (k, h, m)
      | inr n ↦ inr (λ k h. n)
    ]
  ]
]

later : (o : Clocks) (M N : Cut → Type 0) → ((d : Cut) → IsConsistent o d → M d ⊎ N d) → (c : Cut) → Later o M c ⊎ EachLater o N c
later o M N decide c = elim (search_cuts (lengths o) (λ d. IsConsistent o d × IsWithin c d × M d) (λ d. IsConsistent o d → IsWithin c d → N d) (later_at o M N decide c)) [
  | inl w ↦ inl (w.0, w.1.0, w.1.1, w.1.2)
  | inr all ↦ inr (λ d k h. all d (k.shaped ∙ sym (length-lengths o)) k.within k h)
]

pub decide_some_time : (o : Clocks) → IsOrder o → (A : Cut → Type 0) → ((d : Cut) → IsConsistent o d → Decided (A d)) → (c : Cut) → IsConsistent o c → Decided (EfHolds o A c)
decide_some_time o order A decide c k = elim (later o A (λ d. A d → ⊥) decide c) [
  | inl w ↦ let p = path_exists o order c w.0 k w.1 w.2 in inl (p.0, w.0, p.1, w.3)
  | inr none ↦ inr (λ v. none v.1 (path_last (IsConsistent o) c v.0 v.1 v.2) (path_rises (IsConsistent o) c v.0 v.1 v.2) v.3)
]

turned : (A : Cut → Type 0) (d : Cut) → Decided (A d) → (A d → ⊥) ⊎ A d
turned A d (inl h) = inr h
turned A d (inr n) = inl n

pub decide_each_time : (o : Clocks) → IsOrder o → (A : Cut → Type 0) → ((d : Cut) → IsConsistent o d → Decided (A d)) → (c : Cut) → IsConsistent o c → Decided (AgHolds o A c)
decide_each_time o order A decide c k = elim (later o (λ d. A d → ⊥) A (λ d l. turned A d (decide d l)) c) [
  | inl w ↦ inr (λ each. let p = path_exists o order c w.0 k w.1 w.2 in w.3 (each_time_ends o A c each p.0 w.0 p.1))
  | inr all ↦ inl (each_time_from_ends o A c (λ es d p. all d (path_last (IsConsistent o) c es d p) (path_rises (IsConsistent o) c es d p)))
]

-- ---- a path that stays in the set

at_final : (o : Clocks) (c : Cut) → IsConsistent o c → Decided (c ≡ lengths o)
at_final o c k = elim (decide_within (lengths o) c) [
  | inl h ↦ inl (within_both c (lengths o) (k.shaped ∙ sym (length-lengths o)) k.within h)
  | inr no' ↦ inr (λ e. no' (subst (λ x. IsWithin x c) e (within_refl c)))
]

stays_from : (o : Clocks) (A : Cut → Type 0) (c : Cut) → IsConsistent o c → A c → (i : ℕ) → i < length c → EgHolds o A (with_next c i) → EgHolds o A c
stays_from o A c k h i l w = (with_next c i ∷ w.0, (k, (i, l, refl), w.1), (h, w.2))

stays_nowhere : (o : Clocks) (A : Cut → Type 0) (c : Cut) → (c ≡ lengths o → ⊥) → ((i : ℕ) → i < length c → EgHolds o A (with_next c i) → ⊥) → (es : List Cut) → IsPath o c es (lengths o) → AllIn A c es → ⊥
stays_nowhere o A c ne none [] p h = ne p.1
stays_nowhere o A c ne none (e ∷ es) p h = none p.1.0 p.1.1 (subst (EgHolds o A) p.1.2 (es, p.2, h.1))

grows : (c : Cut) (i : ℕ) → i < length c → total c < total (with_next c i)
grows c i h = total_below c (with_next c i) i (with_next_above c i h) (omega (arith, with_next_same c i h))

shorter : (o : Clocks) (c : Cut) → IsConsistent o c → (c ≡ lengths o → ⊥) → total c < total (lengths o)
shorter o c k ne = elim (search_below (λ j. count c j < count (lengths o) j) (λ j. count (lengths o) j ≤ count c j) (λ j. cases_lt (count c j) (count (lengths o) j)) (length (lengths o))) [
  | inl w ↦ total_below c (lengths o) w.0 k.within w.2
  | inr all ↦ absurd (ne (within_both c (lengths o) (k.shaped ∙ sym (length-lengths o)) k.within (λ j. elim (cases_lt j (length (lengths o))) [ inl l ↦ all j l | inr g ↦ omega (arith, count_past (lengths o) j g) ])))
]

stays_first : (o : Clocks) (A : Cut → Type 0) (c : Cut) → EgHolds o A c → A c
stays_first o A c w = all_first A c w.0 w.2

next_decided : (o : Clocks) (A : Cut → Type 0) (c : Cut) (i : ℕ) → (IsConsistent o (with_next c i) → i < length c → Decided (EgHolds o A (with_next c i))) → ((i < length c) × EgHolds o A (with_next c i)) ⊎ (i < length c → EgHolds o A (with_next c i) → ⊥)
next_decided o A c i decide = elim (cases_lt i (length c)) [
  | inr past ↦ inr (λ l. absurd (omega (arith, past, l)))
  | inl there ↦ elim (decide_consistent o (with_next c i)) [
    | inr no' ↦ inr (λ l w. no' (path_first (IsConsistent o) (with_next c i) w.0 (lengths o) w.1))
    | inl k ↦ elim (decide k there) [
      | inl w ↦ inl (there, w)
      | inr no' ↦ inr (λ l. no')
    ]
  ]
]

decide_staying_by : (o : Clocks) (A : Cut → Type 0) → ((d : Cut) → IsConsistent o d → Decided (A d)) → (fuel : ℕ) (c : Cut) → IsConsistent o c → total (lengths o) < total c + fuel → Decided (EgHolds o A c)
decide_staying_by o A decide zero c k f = elim (at_final o c k) [
  | inl e ↦ absurd (omega (arith, f, ap total e))
  | inr ne ↦ absurd (omega (arith, f, shorter o c k ne))
]
decide_staying_by o A decide (suc fuel) c k f = elim (decide c k) [
  | inr no' ↦ inr (λ w. no' (stays_first o A c w))
  | inl h ↦ elim (at_final o c k) [
    | inl e ↦ inl ([], (k, e), h)
    | inr ne ↦ elim (search_below (λ i. (i < length c) × EgHolds o A (with_next c i)) (λ i. i < length c → EgHolds o A (with_next c i) → ⊥) (λ i. next_decided o A c i (λ l there. decide_staying_by o A decide fuel (with_next c i) l (omega (arith, f, grows c i there)))) (length c)) [
      | inl w ↦ inl (stays_from o A c k h w.0 w.2.0 w.2.1)
      | inr none ↦ inr (λ w. stays_nowhere o A c ne (λ i l. none i l l) w.0 w.1 w.2)
    ]
  ]
]

pub decide_staying : (o : Clocks) (A : Cut → Type 0) → ((d : Cut) → IsConsistent o d → Decided (A d)) → (c : Cut) → IsConsistent o c → Decided (EgHolds o A c)
decide_staying o A decide c k = decide_staying_by o A decide (suc (total (lengths o))) c k (omega arith)

-- ---- the next cut

pub decide_next_time : (o : Clocks) (A : Cut → Type 0) → ((d : Cut) → IsConsistent o d → Decided (A d)) → (i : ℕ) (c : Cut) → IsConsistent o c → Decided (ExHolds o i A c)
decide_next_time o A decide i c k = elim (cases_lt i (length c)) [
  | inr past ↦ inr (λ w. absurd (omega (arith, past, w.0)))
  | inl there ↦ elim (decide_consistent o (with_next c i)) [
    | inr no' ↦ inr (λ w. no' (next_time_lands o i A c w))
    | inl n ↦ elim (decide (with_next c i) n) [
      | inr no' ↦ inr (λ w. no' w.2)
      | inl h ↦ inl (next_time_from o i A c there k n h)
    ]
  ]
]

-- ---- formulas

decide_not : {P : Type 0} → Decided P → Decided (P → ⊥)
decide_not (inl p) = inr (λ n. n p)
decide_not (inr n) = inl n

decide_both : {P Q : Type 0} → Decided P → Decided Q → Decided (P × Q)
decide_both (inl p) (inl q) = inl (p, q)
decide_both (inl p) (inr n) = inr (λ w. n w.1)
decide_both (inr n) q = inr (λ w. n w.0)

decide_either : {P Q : Type 0} → Decided P → Decided Q → Decided (P ⊎ Q)
decide_either (inl p) q = inl (inl p)
decide_either (inr n) (inl q) = inl (inr q)
decide_either (inr n) (inr m) = inr (λ w. elim w [ inl p ↦ n p | inr q ↦ m q ])

mutual
  pub decide_sat : (r : Run) → IsOrder r.clocks → (f : Formula) (c : Cut) → IsConsistent r.clocks c → Decided (Sat r f c)
  decide_sat r order (Truth b) c k = decide_true b
  decide_sat r order (Comparison process variable relation side) c k = decide_true (compares relation (value_at r process variable c) (side_at r side c))
  decide_sat r order (Watched process watch) c k = decide_true (r.watched (r.process process) watch (count c (r.process process)))
  decide_sat r order (InTransit sender receiver relation m) c k = decide_true (compares relation (pos (in_transit r (r.process sender) (r.process receiver) c)) (pos m))
  decide_sat r order (Empty sender receiver) c k = cases_eq (in_transit r (r.process sender) (r.process receiver) c) 0
  decide_sat r order (Difference p x q y relation m) c k = decide_true (compares relation (value_at r p x c -ℤ value_at r q y c) m)
  decide_sat r order (Not f) c k = decide_not (decide_sat r order f c k)
  decide_sat r order (And fs) c k = decide_all r order fs c k
  decide_sat r order (Or fs) c k = decide_some r order fs c k
  decide_sat r order (Temporal Ef f) c k = decide_some_time r.clocks order (Sat r f) (decide_sat r order f) c k
  decide_sat r order (Temporal Ag f) c k = decide_each_time r.clocks order (Sat r f) (decide_sat r order f) c k
  decide_sat r order (Temporal Eg f) c k = decide_staying r.clocks (Sat r f) (decide_sat r order f) c k
  decide_sat r order (Temporal Af f) c k = inr (λ w. w)
  decide_sat r order (Temporal Ax f) c k = inr (λ w. w)
  decide_sat r order (Next process f) c k = decide_next_time r.clocks (Sat r f) (decide_sat r order f) (r.process process) c k
  decide_sat r order (Until all left right) c k = inr (λ w. w)

  pub decide_all : (r : Run) → IsOrder r.clocks → (fs : Formulas) (c : Cut) → IsConsistent r.clocks c → Decided (SatAll r fs c)
  decide_all r order Nil c k = inl tt
  decide_all r order (Cons f fs) c k = decide_both (decide_sat r order f c k) (decide_all r order fs c k)

  pub decide_some : (r : Run) → IsOrder r.clocks → (fs : Formulas) (c : Cut) → IsConsistent r.clocks c → Decided (SatSome r fs c)
  decide_some r order Nil c k = inr (λ w. w)
  decide_some r order (Cons f fs) c k = decide_either (decide_sat r order f c k) (decide_some r order fs c k)

-- what is not false at a consistent cut is true
pub stable : (r : Run) → IsOrder r.clocks → (f : Formula) (c : Cut) → IsConsistent r.clocks c → ((Sat r f c → ⊥) → ⊥) → Sat r f c
stable r order f c k h = elim (decide_sat r order f c k) [ inl p ↦ p | inr n ↦ absurd (h n) ]
