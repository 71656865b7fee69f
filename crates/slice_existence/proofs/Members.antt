-- The least member of a closed set, and the least with an event, among the listed cuts of a run.
use Rattle.std.proofs.Common.{◌≡◌, ℕ, Bool, true, false, List, [], ◌∷◌, filter, Option, Some, None, refl, sym, subst, inl, inr, arith}
use Rattle.std.proofs.lemmas.Bool.{false≢true, cases_lt}
use Rattle.run_model.specs.Cut.{Cut, Clocks, count, IsWithin, min_cut}
use Rattle.run_model.specs.Consistent.{IsOrder, IsConsistent}
use Rattle.run_model.specs.Sublattice.{IsSublattice, Having, min_of}
use Rattle.run_model.specs.Slice.{Slice, IsLeastOf, StandsFor}
use Rattle.run_model.specs.Operators.{EfHolds, AgHolds, EgHolds}
use Rattle.run_model.proofs.Counts.{count-min, within_refl, within_trans, min_left, min_right}
use Rattle.meaning_laws.proofs.ClosureLemmas.{some_time_closed, each_time_closed, staying_closed}
use Rattle.meaning_laws.proofs.DecisionLemmas.{Decided, decide_consistent, decide_some_time, decide_each_time, decide_staying}
use Rattle.meaning_laws.proofs.Listing.{IsIn, in_filtered, filtered_in, consistent_cuts, listed_consistent}

-- ---- tests

abbrev answer : {P : Type 0} → Decided P → Bool
answer (inl p) = true
answer (inr n) = false

answer_is : {P : Type 0} → (d : Decided P) → answer d ≡ true → P
answer_is (inl p) told = p
answer_is (inr n) told = absurd (false≢true told)

is_answer : {P : Type 0} → (d : Decided P) → P → answer d ≡ true
is_answer (inl p) h = refl
is_answer (inr n) h = absurd (n h)

-- ---- the least

min_of_in : (c d : Cut) (ds : List Cut) → IsIn c (d ∷ ds) → IsWithin (min_of d ds) c
min_of_in c d [] h = elim h [ inl e ↦ subst (λ x. IsWithin d x) (sym e) (within_refl d) | inr n ↦ absurd n ]
min_of_in c d (e ∷ ds) h = elim h [
  | inl s ↦ subst (λ x. IsWithin (min_cut d (min_of e ds)) x) (sym s) (min_left d (min_of e ds))
  | inr k ↦ within_trans (min_cut d (min_of e ds)) (min_of e ds) c (min_right d (min_of e ds)) (min_of_in c e ds k)
]

module _ (B : Cut → Type 0) (has_min : (c d : Cut) → B c → B d → B (min_cut c d)) where
  min_member : (c : Cut) (cs : List Cut) → ((d : Cut) → IsIn d (c ∷ cs) → B d) → B (min_of c cs)
  min_member c [] all = all c (inl refl)
  min_member c (d ∷ cs) all = has_min c (min_of d cs) (all c (inl refl)) (min_member d cs (λ x m. all x (inr m)))

  -- the least of the members, where they are listed
  least_in : (cs : List Cut) → ((c : Cut) → IsIn c cs → B c) → ((c : Cut) → B c → IsIn c cs) → (k : Option Cut) × IsLeastOf B k
  least_in [] members all = (None, λ c h. all c h)
  least_in (d ∷ ds) members all = (
    Some (min_of d ds),
    record { member = min_member d ds members; least = λ c h. min_of_in c d ds (all c h) },
  )

  pub least_there : (o : Clocks) → ((c : Cut) → B c → IsConsistent o c) → ((c : Cut) → Decided (B c)) → (k : Option Cut) × IsLeastOf B k
  least_there o consistent decide =
      let cuts = consistent_cuts o in
      least_in (filter (λ c. answer (decide c)) cuts)
      (λ c m. answer_is (decide c) (filtered_in (λ d. answer (decide d)) c cuts m).1)
      (λ c h. in_filtered (λ d. answer (decide d)) c cuts (listed_consistent o c (consistent c h)) (is_answer (decide c) h))

-- ---- the slice

module _ (o : Clocks) (A : Cut → Type 0) (closed : IsSublattice o A) (decide : (c : Cut) → IsConsistent o c → Decided (A c)) where
  decide_member : (c : Cut) → Decided (A c)
  decide_member c = elim (decide_consistent o c) [
    | inl k ↦ decide c k
    | inr n ↦ inr (λ h. n (closed.consistent c h))
  ]

  decide_having : (i a : ℕ) (c : Cut) → Decided (Having A i a c)
  decide_having i a c = elim (decide_member c) [
    | inr n ↦ inr (λ h. n h.0)
    | inl k ↦ elim (cases_lt (count c i) a) [
      | inr there ↦ inl (k, there)
      | inl less ↦ inr (λ h. absurd (omega (arith, less, h.1)))
    ]
  ]

  having_min : (i a : ℕ) (c d : Cut) → Having A i a c → Having A i a d → Having A i a (min_cut c d)
  having_min i a c d h k = (closed.has_min c d h.0 k.0, omega (arith, count-min c d i, h.1, k.1))

  row_there : (i a : ℕ) → (k : Option Cut) × IsLeastOf (Having A i a) k
  row_there i a = least_there (Having A i a) (having_min i a) o (λ c h. closed.consistent c h.0) (decide_having i a)

  pub slice_there : (s : Slice) × StandsFor o s A
  slice_there =
      let bottom = least_there A closed.has_min o closed.consistent decide_member in
      (record { bottom = bottom.0; row = λ i a. (row_there i a).0 }, record { bottom = bottom.1; rows = λ i a event. (row_there i a).1 })

-- ---- the slices of the operators

module _ (o : Clocks) (order : IsOrder o) (A : Cut → Type 0) (closed : IsSublattice o A) (decide : (c : Cut) → IsConsistent o c → Decided (A c)) where
  both : (B : Cut → Type 0) → ((c : Cut) → IsConsistent o c → Decided (B c)) → (c : Cut) → IsConsistent o c → Decided (IsConsistent o c × B c)
  both B told c k = elim (told c k) [ inl h ↦ inl (k, h) | inr n ↦ inr (λ h. n h.1) ]

  pub some_time_there : (s : Slice) × StandsFor o s (λ c. IsConsistent o c × EfHolds o A c)
  some_time_there = slice_there o (λ c. IsConsistent o c × EfHolds o A c) (some_time_closed o order A closed) (both (EfHolds o A) (decide_some_time o order A decide))

  pub each_time_there : (s : Slice) × StandsFor o s (λ c. IsConsistent o c × AgHolds o A c)
  each_time_there = slice_there o (λ c. IsConsistent o c × AgHolds o A c) (each_time_closed o order A closed) (both (AgHolds o A) (decide_each_time o order A decide))

  pub staying_there : (s : Slice) × StandsFor o s (λ c. IsConsistent o c × EgHolds o A c)
  staying_there = slice_there o (λ c. IsConsistent o c × EgHolds o A c) (staying_closed o order A closed) (both (EgHolds o A) (decide_staying o A decide))
