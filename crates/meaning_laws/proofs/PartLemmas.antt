-- The parts of the disjuncts of a formula of the class are regular, and the joined slice of the disjuncts is that of the shown set.
use Rattle.std.proofs.Common.{ℕ, zero, suc, ◌≡◌, ◌↔◌, Bool, true, false, not, List, [], ◌∷◌, ◌++◌, bytes_eq, ℤ, pos, ◌+ℤ◌, ◌-ℤ◌, sym, subst, refl, inl, inr}
use Rattle.std.proofs.lemmas.Bool.{cond_both, and_parts, and_from, or_cases, or_left, not-true, false≢true, both_ways}
use Rattle.run_model.specs.Cut.{Cut}
use Rattle.run_model.specs.Run.{Name, Run}
use Rattle.run_model.specs.Consistent.{IsConsistent}
use Rattle.run_model.specs.Sublattice.{IsSublattice, Either, Smallest, given}
use Rattle.run_model.specs.Slice.{Slice, StandsFor}
use Rattle.run_model.specs.Operators.{joined, joined_all}
use Rattle.run_model.specs.Formula.{Relation, Equal, Unequal, Less, LessOrEqual, Greater, GreaterOrEqual, Formula, Truth, Comparison, Watched, InTransit, Empty, Difference, Not, And, Or, Temporal, Next, Until, Formulas, Nil, Cons}
use Rattle.run_model.specs.Meaning.{IsRun, Family}
use Rattle.run_model.specs.Class.{is_local, is_plain, processes, after_sign, is_unequal, is_conjunctive, all_conjunctive, is_disjunctive, all_disjunctive, IsOfClass, signed, channel_parts, empty_parts, difference_parts, parts, all_parts, disjuncts, all_disjuncts, NeverFalls, IsKeptFor, AreKeptFor, PartsKeptFor, DisjunctsKeptFor, SatParts, SatDisjuncts, DisjunctFamily, StandForDisjuncts, AreRegular, HaveRegularParts, Shown}
use Rattle.run_model.proofs.Orders.{min_consistent, max_consistent}
use Rattle.run_model.proofs.SliceLemmas.{stands_same}
use Rattle.meaning_laws.proofs.JoinLemmas.{smallest_wider, smallest_of_closed, joined_stands}
use Rattle.meaning_laws.proofs.RegularLemmas.{Keeps, keeps}
use Rattle.meaning_laws.proofs.DisjunctLemmas.{disjuncts_mean}
use Rattle.meaning_laws.proofs.ShownLemmas.{shown_smallest}

-- ---- parts are regular

regular_joined : (xs ys : List Formula) → AreRegular xs → AreRegular ys → AreRegular (xs ++ ys)
regular_joined [] ys h k = k
regular_joined (f ∷ xs) ys h k = (h.0, regular_joined xs ys h.1 k)

local_conjunctive : (f : Formula) (sign : Bool) → is_local f ≡ true → is_conjunctive sign f ≡ true
unfolding is_conjunctive is_plain processes
local_conjunctive (Truth b) sign h = refl
local_conjunctive (Comparison q variable relation side) sign h = h
local_conjunctive (Watched q watch) sign h = refl
local_conjunctive (InTransit p q relation k) sign h = absurd (false≢true h)
local_conjunctive (Empty p q) sign h = refl
local_conjunctive (Difference p x q y relation k) sign h = absurd (false≢true h)
local_conjunctive (Not f) sign h = or_left (is_local (Not f)) (is_conjunctive (not sign) f) h
local_conjunctive (And fs) true h = or_left (is_local (And fs)) (all_conjunctive true fs) h
local_conjunctive (And fs) false h = h
local_conjunctive (Or fs) true h = h
local_conjunctive (Or fs) false h = or_left (is_local (Or fs)) (all_conjunctive false fs) h
local_conjunctive (Temporal operator f) sign h = absurd (false≢true h)
local_conjunctive (Next process f) sign h = absurd (false≢true h)
local_conjunctive (Until all left right) sign h = absurd (false≢true h)

local_regular : (sign : Bool) (f : Formula) → is_local f ≡ true → AreRegular (signed sign f ∷ [])
unfolding is_conjunctive is_plain processes
local_regular true f h = (local_conjunctive f true h, tt)
local_regular false f h = (or_left (is_local (Not f)) (is_conjunctive false f) h, tt)

bounds_regular : (p q : Name) (relation : Relation) (k : ℕ) → is_unequal relation ≡ false → AreRegular (channel_parts p q relation k)
unfolding is_conjunctive
bounds_regular p q Equal k h = (refl, (refl, tt))
bounds_regular p q Unequal k h = absurd (both_ways true h refl)
bounds_regular p q Less zero h = (refl, tt)
bounds_regular p q Less (suc k) h = (refl, tt)
bounds_regular p q LessOrEqual k h = (refl, tt)
bounds_regular p q Greater k h = (refl, tt)
bounds_regular p q GreaterOrEqual k h = (refl, tt)

empties_regular : (sign : Bool) (p q : Name) → AreRegular (empty_parts sign p q)
unfolding is_conjunctive
empties_regular true p q = (refl, tt)
empties_regular false p q = (refl, tt)

bounded_regular : (p x q y : Name) (relation : Relation) (k : ℤ) → not (bytes_eq p q) ≡ true → is_unequal relation ≡ false → AreRegular (difference_parts p x q y relation k)
unfolding is_conjunctive
bounded_regular p x q y Equal k two h = (and_from (not (bytes_eq p q)) true two refl, (and_from (not (bytes_eq p q)) true two refl, tt))
bounded_regular p x q y Unequal k two h = absurd (both_ways true h refl)
bounded_regular p x q y Less k two h = (and_from (not (bytes_eq p q)) true two refl, tt)
bounded_regular p x q y LessOrEqual k two h = (and_from (not (bytes_eq p q)) true two refl, tt)
bounded_regular p x q y Greater k two h = (and_from (not (bytes_eq p q)) true two refl, tt)
bounded_regular p x q y GreaterOrEqual k two h = (and_from (not (bytes_eq p q)) true two refl, tt)

atom_local : (b : Bool) → is_local (Truth b) ≡ true
unfolding is_plain processes
atom_local b = refl

watch_is_local : (q watch : Name) → is_local (Watched q watch) ≡ true
unfolding is_plain processes
watch_is_local q watch = refl

mutual
  unfolding is_conjunctive all_conjunctive parts all_parts

  pub parts_regular : (f : Formula) (sign : Bool) → is_conjunctive sign f ≡ true → AreRegular (parts sign f)
  parts_regular (Truth b) sign h = local_regular sign (Truth b) (atom_local b)
  parts_regular (Comparison q variable relation side) sign h = local_regular sign (Comparison q variable relation side) h
  parts_regular (Watched q watch) sign h = local_regular sign (Watched q watch) (watch_is_local q watch)
  parts_regular (InTransit p q relation k) sign h = bounds_regular p q (after_sign sign relation) k (not-true (is_unequal (after_sign sign relation)) h)
  parts_regular (Empty p q) sign h = empties_regular sign p q
  parts_regular (Difference p x q y relation k) sign h =
      let both = and_parts (not (bytes_eq p q)) (not (is_unequal (after_sign sign relation))) h in
      bounded_regular p x q y (after_sign sign relation) k both.0 (not-true (is_unequal (after_sign sign relation)) both.1)
  parts_regular (Not f) sign h = cond_both (is_local (Not f)) (signed sign (Not f) ∷ []) (parts (not sign) f) AreRegular
      (λ t. local_regular sign (Not f) t)
      (λ t. elim (or_cases (is_local (Not f)) (is_conjunctive (not sign) f) h) [ inl l ↦ absurd (both_ways (is_local (Not f)) t l) | inr g ↦ parts_regular f (not sign) g ])
  parts_regular (And fs) true h = cond_both (is_local (And fs)) (And fs ∷ []) (all_parts true fs) AreRegular
      (λ t. local_regular true (And fs) t)
      (λ t. elim (or_cases (is_local (And fs)) (all_conjunctive true fs) h) [ inl l ↦ absurd (both_ways (is_local (And fs)) t l) | inr g ↦ all_parts_regular fs true g ])
  parts_regular (And fs) false h = local_regular false (And fs) h
  parts_regular (Or fs) true h = local_regular true (Or fs) h
  parts_regular (Or fs) false h = cond_both (is_local (Or fs)) (Not (Or fs) ∷ []) (all_parts false fs) AreRegular
      (λ t. local_regular false (Or fs) t)
      (λ t. elim (or_cases (is_local (Or fs)) (all_conjunctive false fs) h) [ inl l ↦ absurd (both_ways (is_local (Or fs)) t l) | inr g ↦ all_parts_regular fs false g ])
  parts_regular (Temporal operator f) true h = (h, tt)
  parts_regular (Temporal operator f) false h = absurd (false≢true h)
  parts_regular (Next process f) true h = (h, tt)
  parts_regular (Next process f) false h = absurd (false≢true h)
  parts_regular (Until all left right) sign h = absurd (false≢true h)

  all_parts_regular : (fs : Formulas) (sign : Bool) → all_conjunctive sign fs ≡ true → AreRegular (all_parts sign fs)
  all_parts_regular Nil sign h = tt
  all_parts_regular (Cons f fs) sign h =
      let both = and_parts (is_conjunctive sign f) (all_conjunctive sign fs) h in
      regular_joined (parts sign f) (all_parts sign fs) (parts_regular f sign both.0) (all_parts_regular fs sign both.1)

pub conjunctive_disjunctive : (f : Formula) (sign : Bool) → is_conjunctive sign f ≡ true → is_disjunctive sign f ≡ true
unfolding is_conjunctive is_disjunctive
conjunctive_disjunctive (Truth b) sign h = refl
conjunctive_disjunctive (Comparison q variable relation side) sign h = h
conjunctive_disjunctive (Watched q watch) sign h = refl
conjunctive_disjunctive (InTransit p q relation k) sign h = h
conjunctive_disjunctive (Empty p q) sign h = refl
conjunctive_disjunctive (Difference p x q y relation k) sign h = h
conjunctive_disjunctive (Not f) sign h = or_left (is_conjunctive sign (Not f)) (is_disjunctive (not sign) f) h
conjunctive_disjunctive (And fs) true h = h
conjunctive_disjunctive (And fs) false h = or_left (is_local (And fs)) (all_disjunctive false fs) h
conjunctive_disjunctive (Or fs) true h = or_left (is_local (Or fs)) (all_disjunctive true fs) h
conjunctive_disjunctive (Or fs) false h = h
conjunctive_disjunctive (Temporal operator f) sign h = h
conjunctive_disjunctive (Next process f) sign h = h
conjunctive_disjunctive (Until all left right) sign h = absurd (false≢true h)

each_joined : (xs ys : List (List Formula)) → HaveRegularParts xs → HaveRegularParts ys → HaveRegularParts (xs ++ ys)
each_joined [] ys h k = k
each_joined (d ∷ xs) ys h k = (h.0, each_joined xs ys h.1 k)

one_each : (ps : List Formula) → AreRegular ps → HaveRegularParts (ps ∷ [])
one_each ps h = (h, tt)

mutual
  unfolding is_conjunctive is_disjunctive all_disjunctive disjuncts all_disjuncts

  pub disjuncts_regular : (f : Formula) (sign : Bool) → is_disjunctive sign f ≡ true → HaveRegularParts (disjuncts sign f)
  disjuncts_regular (Truth b) sign h = one_each (parts sign (Truth b)) (parts_regular (Truth b) sign refl)
  disjuncts_regular (Comparison q variable relation side) sign h = one_each (parts sign (Comparison q variable relation side)) (parts_regular (Comparison q variable relation side) sign h)
  disjuncts_regular (Watched q watch) sign h = one_each (parts sign (Watched q watch)) (parts_regular (Watched q watch) sign refl)
  disjuncts_regular (InTransit p q relation k) sign h = one_each (parts sign (InTransit p q relation k)) (parts_regular (InTransit p q relation k) sign h)
  disjuncts_regular (Empty p q) sign h = one_each (parts sign (Empty p q)) (parts_regular (Empty p q) sign refl)
  disjuncts_regular (Difference p x q y relation k) sign h = one_each (parts sign (Difference p x q y relation k)) (parts_regular (Difference p x q y relation k) sign h)
  disjuncts_regular (Not f) sign h = cond_both (is_local (Not f)) (parts sign (Not f) ∷ []) (disjuncts (not sign) f) HaveRegularParts
      (λ t. one_each (parts sign (Not f)) (parts_regular (Not f) sign (or_left (is_local (Not f)) (is_conjunctive (not sign) f) t)))
      (λ t. elim (or_cases (is_conjunctive sign (Not f)) (is_disjunctive (not sign) f) h) [
        | inl c ↦ elim (or_cases (is_local (Not f)) (is_conjunctive (not sign) f) c) [ inl l ↦ absurd (both_ways (is_local (Not f)) t l) | inr g ↦ disjuncts_regular f (not sign) (conjunctive_disjunctive f (not sign) g) ]
        | inr d ↦ disjuncts_regular f (not sign) d
      ])
  disjuncts_regular (And fs) true h = one_each (parts true (And fs)) (parts_regular (And fs) true h)
  disjuncts_regular (And fs) false h = cond_both (is_local (And fs)) (parts false (And fs) ∷ []) (all_disjuncts false fs) HaveRegularParts
      (λ t. one_each (parts false (And fs)) (parts_regular (And fs) false t))
      (λ t. elim (or_cases (is_local (And fs)) (all_disjunctive false fs) h) [ inl l ↦ absurd (both_ways (is_local (And fs)) t l) | inr g ↦ all_disjuncts_regular fs false g ])
  disjuncts_regular (Or fs) true h = cond_both (is_local (Or fs)) (parts true (Or fs) ∷ []) (all_disjuncts true fs) HaveRegularParts
      (λ t. one_each (parts true (Or fs)) (parts_regular (Or fs) true t))
      (λ t. elim (or_cases (is_local (Or fs)) (all_disjunctive true fs) h) [ inl l ↦ absurd (both_ways (is_local (Or fs)) t l) | inr g ↦ all_disjuncts_regular fs true g ])
  disjuncts_regular (Or fs) false h = one_each (parts false (Or fs)) (parts_regular (Or fs) false h)
  disjuncts_regular (Temporal operator f) sign h = one_each (parts sign (Temporal operator f)) (parts_regular (Temporal operator f) sign h)
  disjuncts_regular (Next process f) sign h = one_each (parts sign (Next process f)) (parts_regular (Next process f) sign h)
  disjuncts_regular (Until all left right) sign h = absurd (false≢true h)

  all_disjuncts_regular : (fs : Formulas) (sign : Bool) → all_disjunctive sign fs ≡ true → HaveRegularParts (all_disjuncts sign fs)
  all_disjuncts_regular Nil sign h = tt
  all_disjuncts_regular (Cons f fs) sign h =
      let both = and_parts (is_disjunctive sign f) (all_disjunctive sign fs) h in
      each_joined (disjuncts sign f) (all_disjuncts sign fs) (disjuncts_regular f sign both.0) (all_disjuncts_regular fs sign both.1)

-- ---- the run keeps what the parts ask for where it keeps what the formula asks for

kept_joined : (r : Run) (xs ys : List Formula) → PartsKeptFor r xs → PartsKeptFor r ys → PartsKeptFor r (xs ++ ys)
kept_joined r [] ys h k = k
kept_joined r (f ∷ xs) ys h k = (h.0, kept_joined r xs ys h.1 k)

signed_kept : (r : Run) (sign : Bool) (f : Formula) → IsKeptFor r f → PartsKeptFor r (signed sign f ∷ [])
signed_kept r true f h = (h, tt)
signed_kept r false f h = (h, tt)

bounds_kept : (r : Run) (p q : Name) (relation : Relation) (k : ℕ) → PartsKeptFor r (channel_parts p q relation k)
bounds_kept r p q Equal k = (tt, (tt, tt))
bounds_kept r p q Unequal k = (tt, tt)
bounds_kept r p q Less zero = (tt, tt)
bounds_kept r p q Less (suc k) = (tt, tt)
bounds_kept r p q LessOrEqual k = (tt, tt)
bounds_kept r p q Greater k = (tt, tt)
bounds_kept r p q GreaterOrEqual k = (tt, tt)

empties_kept : (r : Run) (sign : Bool) (p q : Name) → PartsKeptFor r (empty_parts sign p q)
empties_kept r true p q = (tt, tt)
empties_kept r false p q = (tt, tt)

differences_kept : (r : Run) (p x q y : Name) (relation : Relation) (k : ℤ) → NeverFalls r p x × NeverFalls r q y → PartsKeptFor r (difference_parts p x q y relation k)
differences_kept r p x q y Equal k h = (h, (h, tt))
differences_kept r p x q y Unequal k h = (h, tt)
differences_kept r p x q y Less k h = (h, tt)
differences_kept r p x q y LessOrEqual k h = (h, tt)
differences_kept r p x q y Greater k h = (h, tt)
differences_kept r p x q y GreaterOrEqual k h = (h, tt)

mutual
  unfolding parts all_parts

  pub parts_kept : (r : Run) (f : Formula) (sign : Bool) → IsKeptFor r f → PartsKeptFor r (parts sign f)
  parts_kept r (Truth b) sign h = signed_kept r sign (Truth b) h
  parts_kept r (Comparison q variable relation side) sign h = signed_kept r sign (Comparison q variable relation side) h
  parts_kept r (Watched q watch) sign h = signed_kept r sign (Watched q watch) h
  parts_kept r (InTransit p q relation k) sign h = bounds_kept r p q (after_sign sign relation) k
  parts_kept r (Empty p q) sign h = empties_kept r sign p q
  parts_kept r (Difference p x q y relation k) sign h = differences_kept r p x q y (after_sign sign relation) k h
  parts_kept r (Not f) sign h = cond_both (is_local (Not f)) (signed sign (Not f) ∷ []) (parts (not sign) f) (PartsKeptFor r) (λ t. signed_kept r sign (Not f) h) (λ t. parts_kept r f (not sign) h)
  parts_kept r (And fs) true h = cond_both (is_local (And fs)) (And fs ∷ []) (all_parts true fs) (PartsKeptFor r) (λ t. signed_kept r true (And fs) h) (λ t. all_parts_kept r fs true h)
  parts_kept r (And fs) false h = signed_kept r false (And fs) h
  parts_kept r (Or fs) true h = signed_kept r true (Or fs) h
  parts_kept r (Or fs) false h = cond_both (is_local (Or fs)) (Not (Or fs) ∷ []) (all_parts false fs) (PartsKeptFor r) (λ t. signed_kept r false (Or fs) h) (λ t. all_parts_kept r fs false h)
  parts_kept r (Temporal operator f) sign h = signed_kept r sign (Temporal operator f) h
  parts_kept r (Next process f) sign h = signed_kept r sign (Next process f) h
  parts_kept r (Until all left right) sign h = signed_kept r sign (Until all left right) h

  all_parts_kept : (r : Run) (fs : Formulas) (sign : Bool) → AreKeptFor r fs → PartsKeptFor r (all_parts sign fs)
  all_parts_kept r Nil sign h = tt
  all_parts_kept r (Cons f fs) sign h = kept_joined r (parts sign f) (all_parts sign fs) (parts_kept r f sign h.0) (all_parts_kept r fs sign h.1)

each_kept_joined : (r : Run) (xs ys : List (List Formula)) → DisjunctsKeptFor r xs → DisjunctsKeptFor r ys → DisjunctsKeptFor r (xs ++ ys)
each_kept_joined r [] ys h k = k
each_kept_joined r (d ∷ xs) ys h k = (h.0, each_kept_joined r xs ys h.1 k)

one_kept : (r : Run) (f : Formula) (sign : Bool) → IsKeptFor r f → DisjunctsKeptFor r (parts sign f ∷ [])
one_kept r f sign h = (parts_kept r f sign h, tt)

mutual
  unfolding disjuncts all_disjuncts

  pub disjuncts_kept : (r : Run) (f : Formula) (sign : Bool) → IsKeptFor r f → DisjunctsKeptFor r (disjuncts sign f)
  disjuncts_kept r (Truth b) sign h = one_kept r (Truth b) sign h
  disjuncts_kept r (Comparison q variable relation side) sign h = one_kept r (Comparison q variable relation side) sign h
  disjuncts_kept r (Watched q watch) sign h = one_kept r (Watched q watch) sign h
  disjuncts_kept r (InTransit p q relation k) sign h = one_kept r (InTransit p q relation k) sign h
  disjuncts_kept r (Empty p q) sign h = one_kept r (Empty p q) sign h
  disjuncts_kept r (Difference p x q y relation k) sign h = one_kept r (Difference p x q y relation k) sign h
  disjuncts_kept r (Not f) sign h = cond_both (is_local (Not f)) (parts sign (Not f) ∷ []) (disjuncts (not sign) f) (DisjunctsKeptFor r) (λ t. one_kept r (Not f) sign h) (λ t. disjuncts_kept r f (not sign) h)
  disjuncts_kept r (And fs) true h = one_kept r (And fs) true h
  disjuncts_kept r (And fs) false h = cond_both (is_local (And fs)) (parts false (And fs) ∷ []) (all_disjuncts false fs) (DisjunctsKeptFor r) (λ t. one_kept r (And fs) false h) (λ t. all_disjuncts_kept r fs false h)
  disjuncts_kept r (Or fs) true h = cond_both (is_local (Or fs)) (parts true (Or fs) ∷ []) (all_disjuncts true fs) (DisjunctsKeptFor r) (λ t. one_kept r (Or fs) true h) (λ t. all_disjuncts_kept r fs true h)
  disjuncts_kept r (Or fs) false h = one_kept r (Or fs) false h
  disjuncts_kept r (Temporal operator f) sign h = one_kept r (Temporal operator f) sign h
  disjuncts_kept r (Next process f) sign h = one_kept r (Next process f) sign h
  disjuncts_kept r (Until all left right) sign h = one_kept r (Until all left right) sign h

  all_disjuncts_kept : (r : Run) (fs : Formulas) (sign : Bool) → AreKeptFor r fs → DisjunctsKeptFor r (all_disjuncts sign fs)
  all_disjuncts_kept r Nil sign h = tt
  all_disjuncts_kept r (Cons f fs) sign h = each_kept_joined r (disjuncts sign f) (all_disjuncts sign fs) (disjuncts_kept r f sign h.0) (all_disjuncts_kept r fs sign h.1)

-- ---- a disjunct's family is closed

parts_keep : (r : Run) → IsRun r → (d : List Formula) → AreRegular d → PartsKeptFor r d → Keeps r (SatParts r d)
parts_keep r run [] h kept = record { has_min = λ c d k l p q. tt; has_max = λ c d k l p q. tt }
parts_keep r run (f ∷ fs) h kept =
    let first = keeps r run f true h.0 kept.0 in
    let rest = parts_keep r run fs h.1 kept.1 in
    record {
      has_min = λ c d k l p q. (first.has_min c d k l p.0 q.0, rest.has_min c d k l p.1 q.1);
      has_max = λ c d k l p q. (first.has_max c d k l p.0 q.0, rest.has_max c d k l p.1 q.1);
    }

pub disjunct_closed : (r : Run) → IsRun r → (d : List Formula) → AreRegular d → PartsKeptFor r d → IsSublattice r.clocks (DisjunctFamily r d)
disjunct_closed r run d h kept =
    let k = parts_keep r run d h kept in
    record {
      consistent = λ c m. m.0;
      has_min = λ c e m n. (min_consistent r.clocks run.order c e m.0 n.0, k.has_min c e m.0 n.0 m.1 n.1);
      has_max = λ c e m n. (max_consistent r.clocks run.order c e m.0 n.0, k.has_max c e m.0 n.0 m.1 n.1);
    }

-- ---- the joined slice of the disjuncts

abbrev SomeDisjunct : Run → List (List Formula) → Cut → Type 0
SomeDisjunct r ds c = IsConsistent r.clocks c × SatDisjuncts r ds c

no_more : (r : Run) (A : Cut → Type 0) (c : Cut) → Smallest A c ↔ Smallest (Either A (SomeDisjunct r [])) c
no_more r A c = (
  smallest_wider A (Either A (SomeDisjunct r [])) (λ x h. given (inl h)) c,
  smallest_wider (Either A (SomeDisjunct r [])) A (λ x h. elim h [ inl m ↦ given m | inr n ↦ absurd n.1 ]) c,
)

one_more : (r : Run) (A : Cut → Type 0) (d : List Formula) (ds : List (List Formula)) (c : Cut) → Smallest (Either (Either A (DisjunctFamily r d)) (SomeDisjunct r ds)) c ↔ Smallest (Either A (SomeDisjunct r (d ∷ ds))) c
one_more r A d ds c = (
  smallest_wider (Either (Either A (DisjunctFamily r d)) (SomeDisjunct r ds)) (Either A (SomeDisjunct r (d ∷ ds)))
      (λ x h. elim h [
        | inl p ↦ elim p [ inl m ↦ given (inl m) | inr n ↦ given (inr (n.0, inl n.1)) ]
        | inr q ↦ given (inr (q.0, inr q.1))
      ]) c,
  smallest_wider (Either A (SomeDisjunct r (d ∷ ds))) (Either (Either A (DisjunctFamily r d)) (SomeDisjunct r ds))
      (λ x h. elim h [
        | inl m ↦ given (inl (inl m))
        | inr w ↦ elim w.1 [ inl p ↦ given (inl (inr (w.0, p))) | inr q ↦ given (inr (w.0, q)) ]
      ]) c,
)

with_smallest : (A B : Cut → Type 0) (c : Cut) → Smallest (Either (Smallest A) B) c ↔ Smallest (Either A B) c
with_smallest A B c = (
  smallest_wider (Either (Smallest A) B) (Either A B) (λ x h. elim h [ inl m ↦ smallest_wider A (Either A B) (λ y k. given (inl k)) x m | inr n ↦ given (inr n) ]) c,
  smallest_wider (Either A B) (Either (Smallest A) B) (λ x h. elim h [ inl m ↦ given (inl (given m)) | inr n ↦ given (inr n) ]) c,
)

pub joined_with : (r : Run) (A : Cut → Type 0) (s : Slice) → StandsFor r.clocks s (Smallest A) → (ss : List Slice) (ds : List (List Formula)) → StandForDisjuncts r ss ds → StandsFor r.clocks (joined_all s ss) (Smallest (Either A (SomeDisjunct r ds)))
joined_with r A s k [] [] h = stands_same r.clocks s (Smallest A) (Smallest (Either A (SomeDisjunct r []))) (no_more r A) k
joined_with r A s k [] (d ∷ ds) h = absurd h
joined_with r A s k (t ∷ ts) [] h = absurd h
joined_with r A s k (t ∷ ts) (d ∷ ds) h =
    let two = stands_same r.clocks (joined s t) (Smallest (Either (Smallest A) (DisjunctFamily r d))) (Smallest (Either A (DisjunctFamily r d))) (with_smallest A (DisjunctFamily r d)) (joined_stands r.clocks s t (Smallest A) (DisjunctFamily r d) k h.0) in
    stands_same r.clocks (joined_all (joined s t) ts) (Smallest (Either (Either A (DisjunctFamily r d)) (SomeDisjunct r ds))) (Smallest (Either A (SomeDisjunct r (d ∷ ds)))) (one_more r A d ds)
    (joined_with r (Either A (DisjunctFamily r d)) (joined s t) two ts ds h.1)

any_of_them : (r : Run) (d : List Formula) (ds : List (List Formula)) (c : Cut) → Smallest (Either (DisjunctFamily r d) (SomeDisjunct r ds)) c ↔ Smallest (SomeDisjunct r (d ∷ ds)) c
any_of_them r d ds c = (
  smallest_wider (Either (DisjunctFamily r d) (SomeDisjunct r ds)) (SomeDisjunct r (d ∷ ds)) (λ x h. elim h [ inl m ↦ given (m.0, inl m.1) | inr n ↦ given (n.0, inr n.1) ]) c,
  smallest_wider (SomeDisjunct r (d ∷ ds)) (Either (DisjunctFamily r d) (SomeDisjunct r ds)) (λ x h. elim h.1 [ inl p ↦ given (inl (h.0, p)) | inr q ↦ given (inr (h.0, q)) ]) c,
)

shown_by_disjuncts : (r : Run) → IsRun r → (f : Formula) → IsKeptFor r f → (c : Cut) → Smallest (SomeDisjunct r (disjuncts true f)) c ↔ Shown r f c
shown_by_disjuncts r run f kept c = (
  λ h. (shown_smallest r run f kept c).1 (smallest_wider (SomeDisjunct r (disjuncts true f)) (Family r f) (λ x m. given (m.0, (disjuncts_mean r run.order f x m.0).0 m.1)) c h),
  λ h. smallest_wider (Family r f) (SomeDisjunct r (disjuncts true f)) (λ x m. given (m.0, (disjuncts_mean r run.order f x m.0).1 m.1)) c ((shown_smallest r run f kept c).0 h),
)

-- the joined slice of the disjuncts of a formula of the class is that of the set that is shown
pub joined_disjuncts : (r : Run) → IsRun r → (f : Formula) → IsOfClass f → IsKeptFor r f → (d : List Formula) (ds : List (List Formula)) → disjuncts true f ≡ d ∷ ds → (s : Slice) (ss : List Slice) → StandsFor r.clocks s (DisjunctFamily r d) → StandForDisjuncts r ss ds → StandsFor r.clocks (joined_all s ss) (Shown r f)
joined_disjuncts r run f h kept d ds e s ss k l =
    let regular : HaveRegularParts (d ∷ ds) = subst HaveRegularParts e (disjuncts_regular f true h) in
    let all_kept : DisjunctsKeptFor r (d ∷ ds) = subst (DisjunctsKeptFor r) e (disjuncts_kept r f true kept) in
    let closed = disjunct_closed r run d regular.0 all_kept.0 in
    let first = stands_same r.clocks s (DisjunctFamily r d) (Smallest (DisjunctFamily r d)) (λ c. ((smallest_of_closed r.clocks (DisjunctFamily r d) closed c).1, (smallest_of_closed r.clocks (DisjunctFamily r d) closed c).0)) k in
    let all = stands_same r.clocks (joined_all s ss) (Smallest (Either (DisjunctFamily r d) (SomeDisjunct r ds))) (Smallest (SomeDisjunct r (d ∷ ds))) (any_of_them r d ds) (joined_with r (DisjunctFamily r d) s first ss ds l) in
    stands_same r.clocks (joined_all s ss) (Smallest (SomeDisjunct r (disjuncts true f))) (Shown r f) (shown_by_disjuncts r run f kept) (subst (λ x. StandsFor r.clocks (joined_all s ss) (Smallest (SomeDisjunct r x))) (sym e) all)
