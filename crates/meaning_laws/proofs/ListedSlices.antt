-- By listing: whether clocks are those of an order, and the slice of a formula's family.
use Rattle.std.proofs.Common.{◌≡◌, ℕ, ◌+◌, ◌-◌, ◌≤◌, ◌↔◌, Bool, true, ◌&&◌, ◌||◌, eqb, ltb, leb, List, [], ◌∷◌, length, filter, Option, Some, None, sym, subst, refl, inl, inr, arith, le_refl, zero-le}
use Rattle.std.proofs.lemmas.Bool.{cases_lt, and_parts, or_cases, eqb-true, leb-true, le-leb, ltb-true}
use Rattle.run_model.specs.Cut.{Cut, Clocks, count, IsWithin, min_cut, max_cut, lengths}
use Rattle.run_model.specs.Run.{Run}
use Rattle.run_model.specs.Consistent.{clock, IsEvent, IsOrder}
use Rattle.run_model.specs.Sublattice.{IsSublattice, IsGreatest, Having, Smallest, given, minimum, maximum, min_of, max_of}
use Rattle.run_model.specs.Slice.{Slice, IsLeastOf, StandsFor, IsPrintedAs, Edge, edges_of}
use Rattle.run_model.specs.Formula.{Formula}
use Rattle.run_model.specs.Meaning.{Family}
use Rattle.run_model.proofs.Counts.{count-min, count-max, within_trans, within_min, min_left, min_right, max_left, max_right, max_within}
use Rattle.run_model.proofs.Orders.{has_process}
use Rattle.run_model.proofs.SliceLemmas.{least_same, stands_same}
use Rattle.meaning_laws.proofs.JoinLemmas.{smallest_in, smallest_of_closed}
use Rattle.meaning_laws.proofs.Listing.{IsIn, in_filtered, filtered_in, within, within_is, all_below, all_below_at, consistent_cuts, listed_consistent, consistent_listed, holds, holds_reads}

-- ---- orders

-- a test of each event of a cut
abbrev pub all_events : Cut → (ℕ → ℕ → Bool) → Bool
all_events c p = all_below (λ i. all_below (λ a. p i (a + 1)) (count c i)) (length c)

pub all_events_at : (c : Cut) (p : ℕ → ℕ → Bool) → all_events c p ≡ true → (i a : ℕ) → IsEvent c i a → p i a ≡ true
all_events_at c p h i a ev = subst (λ x. p i x ≡ true) (omega (arith, ev.0))
    (all_below_at (λ a. p i (a + 1)) (count c i) (a - 1) (all_below_at (λ i. all_below (λ a. p i (a + 1)) (count c i)) (length c) i h (has_process c i a ev)) (omega (arith, ev.0, ev.1)))

abbrev past_ordered : Clocks → ℕ → ℕ → ℕ → ℕ → Bool
past_ordered o i a j b = within (clock o j b) (clock o i a) && (ltb (count (clock o j b) i) a || (eqb i j && eqb a b))

abbrev event_ordered : Clocks → ℕ → ℕ → Bool
event_ordered o i a = eqb (length (clock o i a)) (length o) && (eqb (count (clock o i a) i) a && (within (clock o i a) (lengths o) && all_events (clock o i a) (past_ordered o i a)))

abbrev pub ordered : Clocks → Bool
ordered o = all_events (lengths o) (event_ordered o)

record EventOrdered (o : Clocks) (i a : ℕ) : Type 0 where
  shaped : length (clock o i a) ≡ length o
  own : count (clock o i a) i ≡ a
  named : IsWithin (clock o i a) (lengths o)
  pasts : (j b : ℕ) → IsEvent (clock o i a) j b → past_ordered o i a j b ≡ true

event_ordered_is : (o : Clocks) (i a : ℕ) → event_ordered o i a ≡ true → EventOrdered o i a
event_ordered_is o i a h =
    let first = and_parts (eqb (length (clock o i a)) (length o)) (eqb (count (clock o i a) i) a && (within (clock o i a) (lengths o) && all_events (clock o i a) (past_ordered o i a))) h in
    let second = and_parts (eqb (count (clock o i a) i) a) (within (clock o i a) (lengths o) && all_events (clock o i a) (past_ordered o i a)) first.1 in
    let third = and_parts (within (clock o i a) (lengths o)) (all_events (clock o i a) (past_ordered o i a)) second.1 in
    record {
      shaped = eqb-true (length (clock o i a)) (length o) first.0;
      own = eqb-true (count (clock o i a) i) a second.0;
      named = within_is (clock o i a) (lengths o) third.0;
      pasts = all_events_at (clock o i a) (past_ordered o i a) third.1;
    }

pub ordered_is : (o : Clocks) → ordered o ≡ true → IsOrder o
ordered_is o h =
    let at : (i a : ℕ) → IsEvent (lengths o) i a → EventOrdered o i a = λ i a ev. event_ordered_is o i a (all_events_at (lengths o) (event_ordered o) h i a ev) in
    record {
      shaped = λ i a ev. (at i a ev).shaped;
      own = λ i a ev. (at i a ev).own;
      named = λ i a ev. (at i a ev).named;
      transitive = λ i a j b ev fv. within_is (clock o j b) (clock o i a) (and_parts (within (clock o j b) (clock o i a)) (ltb (count (clock o j b) i) a || (eqb i j && eqb a b)) ((at i a ev).pasts j b fv)).0;
      loopless = λ i a j b ev fv loop.
          let past = and_parts (within (clock o j b) (clock o i a)) (ltb (count (clock o j b) i) a || (eqb i j && eqb a b)) ((at i a ev).pasts j b fv) in
          elim (or_cases (ltb (count (clock o j b) i) a) (eqb i j && eqb a b) past.1) [
            | inl less ↦ absurd (omega (arith, loop, ltb-true (count (clock o j b) i) a less))
            | inr same ↦ let both = and_parts (eqb i j) (eqb a b) same in (eqb-true i j both.0, eqb-true a b both.1)
          ];
    }

-- ---- slices

-- the least of the cuts, and the greatest, if there are any
abbrev pub least_listed : List Cut → Option Cut
least_listed [] = None
least_listed (c ∷ cs) = Some (min_of c cs)

abbrev pub greatest_listed : List Cut → Option Cut
greatest_listed [] = None
greatest_listed (c ∷ cs) = Some (max_of c cs)

min_of_in : (c d : Cut) (ds : List Cut) → IsIn c (d ∷ ds) → IsWithin (min_of d ds) c
min_of_in c d [] h = elim h [ inl e ↦ subst (λ x. IsWithin d x) (sym e) (λ i. le_refl (count d i)) | inr n ↦ absurd n ]
min_of_in c d (e ∷ ds) h = elim h [
  | inl s ↦ subst (λ x. IsWithin (min_cut d (min_of e ds)) x) (sym s) (min_left d (min_of e ds))
  | inr k ↦ within_trans (min_cut d (min_of e ds)) (min_of e ds) c (min_right d (min_of e ds)) (min_of_in c e ds k)
]

max_of_in : (c d : Cut) (ds : List Cut) → IsIn c (d ∷ ds) → IsWithin c (max_of d ds)
max_of_in c d [] h = elim h [ inl e ↦ subst (λ x. IsWithin x d) (sym e) (λ i. le_refl (count d i)) | inr n ↦ absurd n ]
max_of_in c d (e ∷ ds) h = elim h [
  | inl s ↦ subst (λ x. IsWithin x (max_cut d (max_of e ds))) (sym s) (max_left d (max_of e ds))
  | inr k ↦ within_trans c (max_of e ds) (max_cut d (max_of e ds)) (max_of_in c e ds k) (max_right d (max_of e ds))
]

-- the members of A that have event a of process i
abbrev AreAll : (Cut → Type 0) → ℕ → ℕ → List Cut → Type 0
AreAll A i a cs = (c : Cut) → IsIn c cs ↔ Having A i a c

min_having : (A : Cut → Type 0) (i a : ℕ) (c : Cut) (cs : List Cut) → ((d : Cut) → IsIn d (c ∷ cs) → Having A i a d) → Having (Smallest A) i a (min_of c cs)
min_having A i a c [] h = let k = h c (inl refl) in (given k.0, k.1)
min_having A i a c (d ∷ cs) h =
    let k = h c (inl refl) in
    let rest = min_having A i a d cs (λ x m. h x (inr m)) in
    (minimum (given k.0) rest.0, omega (arith, count-min c (min_of d cs) i, k.1, rest.1))

listed_row : (A : Cut → Type 0) (i a : ℕ) (cs : List Cut) → AreAll A i a cs → IsLeastOf (Having (Smallest A) i a) (least_listed cs)
listed_row A i a [] all = λ c h. smallest_in A (λ x. a ≤ count x i → ⊥)
    (λ x m has. (all x).1 (m, has))
    (λ x y p q has. p (omega (arith, has, count-min x y i)))
    (λ x y p q has. elim (cases_lt (count x i) (count y i)) [ inl l ↦ q (omega (arith, l, has, count-max x y i)) | inr g ↦ p (omega (arith, g, has, count-max x y i)) ])
    c h.0 h.1
listed_row A i a (d ∷ cs) all = record {
  member = min_having A i a d cs (λ x m. (all x).0 m);
  least = λ c h. smallest_in A (λ x. a ≤ count x i → IsWithin (min_of d cs) x)
      (λ x m has. min_of_in x d cs ((all x).1 (m, has)))
      (λ x y p q has. within_min (min_of d cs) x y (p (omega (arith, has, count-min x y i))) (q (omega (arith, has, count-min x y i))))
      (λ x y p q has. elim (cases_lt (count x i) (count y i)) [
        | inl l ↦ within_trans (min_of d cs) y (max_cut x y) (q (omega (arith, l, has, count-max x y i))) (max_right x y)
        | inr g ↦ within_trans (min_of d cs) x (max_cut x y) (p (omega (arith, g, has, count-max x y i))) (max_left x y)
      ])
      c h.0 h.1;
}

-- the cuts where the formula holds
abbrev pub family : Run → Formula → List Cut
family r f = filter (holds r (consistent_cuts r.clocks) f) (consistent_cuts r.clocks)

family_is : (r : Run) → IsOrder r.clocks → (f : Formula) (c : Cut) → IsIn c (family r f) ↔ Family r f c
family_is r order f c = (
  λ h.
      let w = filtered_in (holds r (consistent_cuts r.clocks) f) c (consistent_cuts r.clocks) h in
      let k = consistent_listed r.clocks c w.0 in
      (k, (holds_reads r order f c k).0 w.1),
  λ h. in_filtered (holds r (consistent_cuts r.clocks) f) c (consistent_cuts r.clocks) (listed_consistent r.clocks c h.0) ((holds_reads r order f c h.0).1 h.1),
)

abbrev pub family_having : Run → Formula → ℕ → ℕ → List Cut
family_having r f i a = filter (λ c. leb a (count c i)) (family r f)

family_having_is : (r : Run) → IsOrder r.clocks → (f : Formula) (i a : ℕ) → AreAll (Family r f) i a (family_having r f i a)
family_having_is r order f i a c = (
  λ h.
      let w = filtered_in (λ c. leb a (count c i)) c (family r f) h in
      ((family_is r order f c).0 w.0, leb-true a (count c i) w.1),
  λ h. in_filtered (λ c. leb a (count c i)) c (family r f) ((family_is r order f c).1 h.0) (le-leb a (count c i) h.1),
)

abbrev pub listed_slice : Run → Formula → Slice
listed_slice r f = record { bottom = least_listed (family r f); row = λ i a. least_listed (family_having r f i a) }

family_zero : (r : Run) → IsOrder r.clocks → (f : Formula) → AreAll (Family r f) 0 0 (family r f)
family_zero r order f c = (λ h. ((family_is r order f c).0 h, zero-le), λ h. (family_is r order f c).1 h.0)

having_none : (A : Cut → Type 0) (c : Cut) → Having A 0 0 c ↔ A c
having_none A c = (λ h. h.0, λ h. (h, zero-le))

-- the listed slice is that of the smallest sublattice round the family
pub listed_stands : (r : Run) → IsOrder r.clocks → (f : Formula) → StandsFor r.clocks (listed_slice r f) (Smallest (Family r f))
listed_stands r order f = record {
  bottom = least_same (Having (Smallest (Family r f)) 0 0) (Smallest (Family r f)) (having_none (Smallest (Family r f))) (least_listed (family r f)) (listed_row (Family r f) 0 0 (family r f) (family_zero r order f));
  rows = λ i a ev. listed_row (Family r f) i a (family_having r f i a) (family_having_is r order f i a);
}

none_some : (t : Cut) → None ≡ Some t → ⊥
none_some t e = cc

some_is : (c d : Cut) → Some c ≡ Some d → c ≡ d
some_is c d e = cc

max_member : (A : Cut → Type 0) (c : Cut) (cs : List Cut) → ((d : Cut) → IsIn d (c ∷ cs) → A d) → Smallest A (max_of c cs)
max_member A c [] h = given (h c (inl refl))
max_member A c (d ∷ cs) h = maximum (given (h c (inl refl))) (max_member A d cs (λ x m. h x (inr m)))

greatest_of_list : (A : Cut → Type 0) (cs : List Cut) → ((c : Cut) → IsIn c cs ↔ A c) → (t : Cut) → greatest_listed cs ≡ Some t → IsGreatest (Smallest A) t
greatest_of_list A [] all t e = absurd (none_some t e)
greatest_of_list A (d ∷ cs) all t e = subst (IsGreatest (Smallest A)) (some_is (max_of d cs) t e) (record {
  member = max_member A d cs (λ x m. (all x).0 m);
  greatest = smallest_in A (λ x. IsWithin x (max_of d cs)) (λ x m. max_of_in x d cs ((all x).1 m)) (λ x y p q. within_trans (min_cut x y) x (max_of d cs) (min_left x y) p) (λ x y p q. max_within x y (max_of d cs) p q);
})

-- what is printed, for a formula of any kind
pub listed_prints : (r : Run) → IsOrder r.clocks → (f : Formula) (low high : Cut) (edges : List Edge) → least_listed (family r f) ≡ Some low → greatest_listed (family r f) ≡ Some high → edges ≡ edges_of r.clocks (listed_slice r f) high → IsPrintedAs r.clocks (Smallest (Family r f)) low high edges
listed_prints r order f low high edges e g h = record {
  slice = listed_slice r f;
  stands = listed_stands r order f;
  least = subst (IsLeastOf (Smallest (Family r f))) e (listed_stands r order f).bottom;
  greatest = greatest_of_list (Family r f) (family r f) (family_is r order f) high g;
  listed = h;
}

printed_same : (o : Clocks) (A B : Cut → Type 0) → ((c : Cut) → A c ↔ B c) → (low high : Cut) (edges : List Edge) → IsPrintedAs o A low high edges → IsPrintedAs o B low high edges
printed_same o A B same low high edges k = record {
  slice = k.slice;
  stands = stands_same o k.slice A B same k.stands;
  least = record { member = (same low).0 k.least.member; least = λ c h. k.least.least c ((same c).1 h) };
  greatest = record { member = (same high).0 k.greatest.member; greatest = λ c h. k.greatest.greatest c ((same c).1 h) };
  listed = k.listed;
}

-- and for a formula with a closed family
pub closed_prints : (r : Run) (f : Formula) (low high : Cut) (edges : List Edge) → IsSublattice r.clocks (Family r f) → IsPrintedAs r.clocks (Smallest (Family r f)) low high edges → IsPrintedAs r.clocks (Family r f) low high edges
closed_prints r f low high edges closed k = printed_same r.clocks (Smallest (Family r f)) (Family r f) (smallest_of_closed r.clocks (Family r f) closed) low high edges k
