-- The disjuncts of a formula mean the formula, and there is one exactly where it is regular.
use Rattle.std.proofs.Common.{◌≡◌, ℕ, zero, suc, ◌+◌, ◌≤◌, ◌⊎◌, ◌↔◌, Bool, true, false, not, ◌&&◌, ◌||◌, List, [], ◌∷◌, ◌++◌, length, ℤ, pos, ◌+ℤ◌, ◌-ℤ◌, sym, ap, ◌∙◌, refl, inl, inr, arith, length-append}
use Rattle.std.proofs.lemmas.Bool.{cases_Bool, cond_both, and_parts, or_cases, or_left, or_right, cond-false, false≢true, both_ways}
use Rattle.run_model.specs.Cut.{Cut}
use Rattle.run_model.specs.Run.{Name, Run}
use Rattle.run_model.specs.Consistent.{IsOrder, IsConsistent}
use Rattle.run_model.specs.Formula.{Relation, Equal, Unequal, Less, LessOrEqual, Greater, GreaterOrEqual, Formula, Truth, Comparison, Watched, InTransit, Empty, Difference, Not, And, Or, Temporal, Next, Until, Formulas, Nil, Cons}
use Rattle.run_model.specs.Meaning.{in_transit, Sat, SatAll, SatSome}
use Rattle.run_model.specs.Class.{is_local, after_sign, is_conjunctive, all_conjunctive, is_disjunctive, all_disjunctive, IsRegular, IsOfClass, has_two, is_wide, all_wide, signed, channel_parts, empty_parts, difference_parts, parts, all_parts, disjuncts, all_disjuncts, SatParts, SatDisjuncts}
use Rattle.meaning_laws.proofs.DecisionLemmas.{decide_sat}
use Rattle.run_model.proofs.RelationLemmas.{holds_of, from_holds}
use Rattle.meaning_laws.proofs.DifferenceLemmas.{less_as_bound, greater_as_bound, bounds_from_equal, equal_from_bounds}
use Rattle.meaning_laws.proofs.RegularLemmas.{Signed, SignedAll, Compared, channel_signed, empty_relation, empty_bound, empty_signed, difference_at, DifferenceCompared, difference_signed, not_signed}

then_iff : {A B C : Type 0} → A ↔ B → B ↔ C → A ↔ C
then_iff e f = (λ h. f.0 (e.0 h), λ h. e.1 (f.1 h))

both_iff : {A B C D : Type 0} → A ↔ B → C ↔ D → (A × C) ↔ (B × D)
both_iff e f = (λ h. (e.0 h.0, f.0 h.1), λ h. (e.1 h.0, f.1 h.1))

either_iff : {A B C D : Type 0} → A ↔ B → C ↔ D → (A ⊎ C) ↔ (B ⊎ D)
either_iff e f = (
  λ h. elim h [ inl a ↦ inl (e.0 a) | inr c ↦ inr (f.0 c) ],
  λ h. elim h [ inl b ↦ inl (e.1 b) | inr d ↦ inr (f.1 d) ],
)

pub parts_joined : (r : Run) (xs ys : List Formula) (c : Cut) → SatParts r (xs ++ ys) c ↔ (SatParts r xs c × SatParts r ys c)
parts_joined r [] ys c = (λ h. (tt, h), λ h. h.1)
parts_joined r (f ∷ xs) ys c =
    let rest = parts_joined r xs ys c in
    (λ h. ((h.0, (rest.0 h.1).0), (rest.0 h.1).1), λ h. (h.0.0, rest.1 (h.0.1, h.1)))

pub disjuncts_joined : (r : Run) (xs ys : List (List Formula)) (c : Cut) → SatDisjuncts r (xs ++ ys) c ↔ (SatDisjuncts r xs c ⊎ SatDisjuncts r ys c)
disjuncts_joined r [] ys c = (λ h. inr h, λ h. elim h [ inl n ↦ absurd n | inr k ↦ k ])
disjuncts_joined r (d ∷ xs) ys c =
    let rest = disjuncts_joined r xs ys c in (
      λ h. elim h [ inl p ↦ inl (inl p) | inr q ↦ elim (rest.0 q) [ inl u ↦ inl (inr u) | inr v ↦ inr v ] ],
      λ h. elim h [ inl w ↦ elim w [ inl p ↦ inl p | inr u ↦ inr (rest.1 (inl u)) ] | inr v ↦ inr (rest.1 (inr v)) ],
    )

one_part : (r : Run) (sign : Bool) (f : Formula) (c : Cut) → SatParts r (signed sign f ∷ []) c ↔ Signed r sign f c
one_part r true f c = (λ h. h.0, λ h. (h, tt))
one_part r false f c = (λ h. h.0, λ h. (h, tt))

one_disjunct : (r : Run) (ps : List Formula) (c : Cut) → SatDisjuncts r (ps ∷ []) c ↔ SatParts r ps c
one_disjunct r ps c = (λ h. elim h [ inl p ↦ p | inr n ↦ absurd n ], λ h. inl h)

-- ---- channels

abbrev transit : Run → Name → Name → Cut → ℕ
transit r p q c = in_transit r (r.process p) (r.process q) c

bounds_mean : (r : Run) (p q : Name) (relation : Relation) (k : ℕ) (c : Cut) → SatParts r (channel_parts p q relation k) c ↔ Compared r p q relation k c
bounds_mean r p q Equal k c = (
  λ h. omega (arith, holds_of LessOrEqual (transit r p q c) k h.0, holds_of GreaterOrEqual (transit r p q c) k h.1.0),
  λ h. (from_holds LessOrEqual (transit r p q c) k (omega (arith, h)), (from_holds GreaterOrEqual (transit r p q c) k (omega (arith, h)), tt)),
)
bounds_mean r p q Unequal k c = (λ h. holds_of Unequal (transit r p q c) k h.0, λ h. (from_holds Unequal (transit r p q c) k h, tt))
bounds_mean r p q Less zero c = (λ h. absurd (false≢true h.0), λ h. absurd (omega (arith, h)))
bounds_mean r p q Less (suc k) c = (λ h. omega (arith, holds_of LessOrEqual (transit r p q c) k h.0), λ h. (from_holds LessOrEqual (transit r p q c) k (omega (arith, h)), tt))
bounds_mean r p q LessOrEqual k c = (λ h. holds_of LessOrEqual (transit r p q c) k h.0, λ h. (from_holds LessOrEqual (transit r p q c) k h, tt))
bounds_mean r p q Greater k c = (λ h. omega (arith, holds_of GreaterOrEqual (transit r p q c) (k + 1) h.0), λ h. (from_holds GreaterOrEqual (transit r p q c) (k + 1) (omega (arith, h)), tt))
bounds_mean r p q GreaterOrEqual k c = (λ h. holds_of GreaterOrEqual (transit r p q c) k h.0, λ h. (from_holds GreaterOrEqual (transit r p q c) k h, tt))

empties_mean : (r : Run) (sign : Bool) (p q : Name) (c : Cut) → SatParts r (empty_parts sign p q) c ↔ Compared r p q (empty_relation sign) (empty_bound sign) c
empties_mean r true p q c = bounds_mean r p q LessOrEqual 0 c
empties_mean r false p q c = bounds_mean r p q GreaterOrEqual 1 c

-- ---- differences

differences_mean : (r : Run) (p x q y : Name) (relation : Relation) (k : ℤ) (c : Cut) → SatParts r (difference_parts p x q y relation k) c ↔ DifferenceCompared r p x q y relation k c
differences_mean r p x q y Equal k c = (
  λ h. equal_from_bounds (difference_at r p x q y c) k h.0 h.1.0,
  λ h. let both = bounds_from_equal (difference_at r p x q y c) k h in (both.0, (both.1, tt)),
)
differences_mean r p x q y Unequal k c = (λ h. h.0, λ h. (h, tt))
differences_mean r p x q y Less k c = (λ h. less_as_bound (difference_at r p x q y c) k ∙ h.0, λ h. (sym (less_as_bound (difference_at r p x q y c) k) ∙ h, tt))
differences_mean r p x q y LessOrEqual k c = (λ h. h.0, λ h. (h, tt))
differences_mean r p x q y Greater k c = (λ h. greater_as_bound (difference_at r p x q y c) k ∙ h.0, λ h. (sym (greater_as_bound (difference_at r p x q y c) k) ∙ h, tt))
differences_mean r p x q y GreaterOrEqual k c = (λ h. h.0, λ h. (h, tt))

-- ---- conjunctions

none_iff : (r : Run) (sign : Bool) (c : Cut) → SatParts r [] c ↔ SignedAll r sign Nil c
none_iff r true c = (λ h. tt, λ h. tt)
none_iff r false c = (λ h n. n, λ h. tt)

more_iff : (r : Run) (sign : Bool) (f : Formula) (fs : Formulas) (c : Cut) → (Signed r sign f c × SignedAll r sign fs c) ↔ SignedAll r sign (Cons f fs) c
more_iff r true f fs c = (λ h. h, λ h. h)
more_iff r false f fs c = (λ h w. elim w [ inl u ↦ h.0 u | inr v ↦ h.1 v ], λ h. (λ u. h (inl u), λ v. h (inr v)))

mutual
  unfolding parts all_parts

  pub parts_mean : (r : Run) → IsOrder r.clocks → (f : Formula) (sign : Bool) (c : Cut) → IsConsistent r.clocks c → SatParts r (parts sign f) c ↔ Signed r sign f c
  parts_mean r order (Truth b) sign c k = one_part r sign (Truth b) c
  parts_mean r order (Comparison q variable relation side) sign c k = one_part r sign (Comparison q variable relation side) c
  parts_mean r order (Watched q watch) sign c k = one_part r sign (Watched q watch) c
  parts_mean r order (InTransit p q relation m) sign c k = then_iff (bounds_mean r p q (after_sign sign relation) m c) (channel_signed r sign p q relation m c)
  parts_mean r order (Empty p q) sign c k = then_iff (empties_mean r sign p q c) (empty_signed r sign p q c)
  parts_mean r order (Difference p x q y relation m) sign c k = then_iff (differences_mean r p x q y (after_sign sign relation) m c) (difference_signed r sign p x q y relation m c)
  parts_mean r order (Not f) sign c k = cond_both (is_local (Not f)) (signed sign (Not f) ∷ []) (parts (not sign) f) (λ ps. SatParts r ps c ↔ Signed r sign (Not f) c)
      (λ t. one_part r sign (Not f) c)
      (λ t. then_iff (parts_mean r order f (not sign) c k) (not_signed r order sign f c k))
  parts_mean r order (And fs) true c k = cond_both (is_local (And fs)) (And fs ∷ []) (all_parts true fs) (λ ps. SatParts r ps c ↔ Sat r (And fs) c)
      (λ t. one_part r true (And fs) c)
      (λ t. all_parts_mean r order fs true c k)
  parts_mean r order (And fs) false c k = one_part r false (And fs) c
  parts_mean r order (Or fs) true c k = one_part r true (Or fs) c
  parts_mean r order (Or fs) false c k = cond_both (is_local (Or fs)) (Not (Or fs) ∷ []) (all_parts false fs) (λ ps. SatParts r ps c ↔ (Sat r (Or fs) c → ⊥))
      (λ t. one_part r false (Or fs) c)
      (λ t. all_parts_mean r order fs false c k)
  parts_mean r order (Temporal operator f) sign c k = one_part r sign (Temporal operator f) c
  parts_mean r order (Next process f) sign c k = one_part r sign (Next process f) c
  parts_mean r order (Until all left right) sign c k = one_part r sign (Until all left right) c

  pub all_parts_mean : (r : Run) → IsOrder r.clocks → (fs : Formulas) (sign : Bool) (c : Cut) → IsConsistent r.clocks c → SatParts r (all_parts sign fs) c ↔ SignedAll r sign fs c
  all_parts_mean r order Nil sign c k = none_iff r sign c
  all_parts_mean r order (Cons f fs) sign c k = then_iff (parts_joined r (parts sign f) (all_parts sign fs) c)
      (then_iff (both_iff (parts_mean r order f sign c k) (all_parts_mean r order fs sign c k)) (more_iff r sign f fs c))

-- ---- disjunctions

abbrev pub SignedSome : Run → Bool → Formulas → Cut → Type 0
SignedSome r true fs c = SatSome r fs c
SignedSome r false fs c = SatAll r fs c → ⊥

none_some_iff : (r : Run) (sign : Bool) (c : Cut) → ⊥ ↔ SignedSome r sign Nil c
none_some_iff r true c = (λ h. h, λ h. h)
none_some_iff r false c = (λ h. absurd h, λ h. h tt)

-- the law of De Morgan needs the decision
more_some_iff : (r : Run) → IsOrder r.clocks → (sign : Bool) (f : Formula) (fs : Formulas) (c : Cut) → IsConsistent r.clocks c → (Signed r sign f c ⊎ SignedSome r sign fs c) ↔ SignedSome r sign (Cons f fs) c
more_some_iff r order true f fs c k = (λ h. h, λ h. h)
more_some_iff r order false f fs c k = (
  λ h w. elim h [ inl u ↦ u w.0 | inr v ↦ v w.1 ],
  λ h. elim (decide_sat r order f c k) [ inl p ↦ inr (λ v. h (p, v)) | inr n ↦ inl n ],
)

mutual
  unfolding disjuncts all_disjuncts

  pub disjuncts_signed : (r : Run) → IsOrder r.clocks → (f : Formula) (sign : Bool) (c : Cut) → IsConsistent r.clocks c → SatDisjuncts r (disjuncts sign f) c ↔ Signed r sign f c
  disjuncts_signed r order (Truth b) sign c k = then_iff (one_disjunct r (parts sign (Truth b)) c) (parts_mean r order (Truth b) sign c k)
  disjuncts_signed r order (Comparison q variable relation side) sign c k = then_iff (one_disjunct r (parts sign (Comparison q variable relation side)) c) (parts_mean r order (Comparison q variable relation side) sign c k)
  disjuncts_signed r order (Watched q watch) sign c k = then_iff (one_disjunct r (parts sign (Watched q watch)) c) (parts_mean r order (Watched q watch) sign c k)
  disjuncts_signed r order (InTransit p q relation m) sign c k = then_iff (one_disjunct r (parts sign (InTransit p q relation m)) c) (parts_mean r order (InTransit p q relation m) sign c k)
  disjuncts_signed r order (Empty p q) sign c k = then_iff (one_disjunct r (parts sign (Empty p q)) c) (parts_mean r order (Empty p q) sign c k)
  disjuncts_signed r order (Difference p x q y relation m) sign c k = then_iff (one_disjunct r (parts sign (Difference p x q y relation m)) c) (parts_mean r order (Difference p x q y relation m) sign c k)
  disjuncts_signed r order (Not f) sign c k = cond_both (is_local (Not f)) (parts sign (Not f) ∷ []) (disjuncts (not sign) f) (λ ds. SatDisjuncts r ds c ↔ Signed r sign (Not f) c)
      (λ t. then_iff (one_disjunct r (parts sign (Not f)) c) (parts_mean r order (Not f) sign c k))
      (λ t. then_iff (disjuncts_signed r order f (not sign) c k) (not_signed r order sign f c k))
  disjuncts_signed r order (And fs) true c k = then_iff (one_disjunct r (parts true (And fs)) c) (parts_mean r order (And fs) true c k)
  disjuncts_signed r order (And fs) false c k = cond_both (is_local (And fs)) (parts false (And fs) ∷ []) (all_disjuncts false fs) (λ ds. SatDisjuncts r ds c ↔ (Sat r (And fs) c → ⊥))
      (λ t. then_iff (one_disjunct r (parts false (And fs)) c) (parts_mean r order (And fs) false c k))
      (λ t. all_disjuncts_signed r order fs false c k)
  disjuncts_signed r order (Or fs) true c k = cond_both (is_local (Or fs)) (parts true (Or fs) ∷ []) (all_disjuncts true fs) (λ ds. SatDisjuncts r ds c ↔ Sat r (Or fs) c)
      (λ t. then_iff (one_disjunct r (parts true (Or fs)) c) (parts_mean r order (Or fs) true c k))
      (λ t. all_disjuncts_signed r order fs true c k)
  disjuncts_signed r order (Or fs) false c k = then_iff (one_disjunct r (parts false (Or fs)) c) (parts_mean r order (Or fs) false c k)
  disjuncts_signed r order (Temporal operator f) sign c k = then_iff (one_disjunct r (parts sign (Temporal operator f)) c) (parts_mean r order (Temporal operator f) sign c k)
  disjuncts_signed r order (Next process f) sign c k = then_iff (one_disjunct r (parts sign (Next process f)) c) (parts_mean r order (Next process f) sign c k)
  disjuncts_signed r order (Until all left right) sign c k = then_iff (one_disjunct r (parts sign (Until all left right)) c) (parts_mean r order (Until all left right) sign c k)

  pub all_disjuncts_signed : (r : Run) → IsOrder r.clocks → (fs : Formulas) (sign : Bool) (c : Cut) → IsConsistent r.clocks c → SatDisjuncts r (all_disjuncts sign fs) c ↔ SignedSome r sign fs c
  all_disjuncts_signed r order Nil sign c k = none_some_iff r sign c
  all_disjuncts_signed r order (Cons f fs) sign c k = then_iff (disjuncts_joined r (disjuncts sign f) (all_disjuncts sign fs) c)
      (then_iff (either_iff (disjuncts_signed r order f sign c k) (all_disjuncts_signed r order fs sign c k)) (more_some_iff r order sign f fs c k))

-- some disjunct has all its parts true exactly where the formula is true
pub disjuncts_mean : (r : Run) → IsOrder r.clocks → (f : Formula) (c : Cut) → IsConsistent r.clocks c → SatDisjuncts r (disjuncts true f) c ↔ Sat r f c
disjuncts_mean r order f c k = disjuncts_signed r order f true c k

-- ---- one disjunct exactly where the formula is regular

pub one_where_conjunctive : (f : Formula) (sign : Bool) → is_conjunctive sign f ≡ true → length (disjuncts sign f) ≡ 1
unfolding is_conjunctive all_conjunctive disjuncts all_disjuncts
one_where_conjunctive (Truth b) sign h = refl
one_where_conjunctive (Comparison q variable relation side) sign h = refl
one_where_conjunctive (Watched q watch) sign h = refl
one_where_conjunctive (InTransit p q relation m) sign h = refl
one_where_conjunctive (Empty p q) sign h = refl
one_where_conjunctive (Difference p x q y relation m) sign h = refl
one_where_conjunctive (Not f) sign h = cond_both (is_local (Not f)) (parts sign (Not f) ∷ []) (disjuncts (not sign) f) (λ ds. length ds ≡ 1)
    (λ t. refl)
    (λ t. elim (or_cases (is_local (Not f)) (is_conjunctive (not sign) f) h) [ inl l ↦ absurd (both_ways (is_local (Not f)) t l) | inr g ↦ one_where_conjunctive f (not sign) g ])
one_where_conjunctive (And fs) true h = refl
one_where_conjunctive (And fs) false h = cond_both (is_local (And fs)) (parts false (And fs) ∷ []) (all_disjuncts false fs) (λ ds. length ds ≡ 1) (λ t. refl) (λ t. absurd (both_ways (is_local (And fs)) t h))
one_where_conjunctive (Or fs) true h = cond_both (is_local (Or fs)) (parts true (Or fs) ∷ []) (all_disjuncts true fs) (λ ds. length ds ≡ 1) (λ t. refl) (λ t. absurd (both_ways (is_local (Or fs)) t h))
one_where_conjunctive (Or fs) false h = refl
one_where_conjunctive (Temporal operator f) sign h = refl
one_where_conjunctive (Next process f) sign h = refl
one_where_conjunctive (Until all left right) sign h = refl

-- ---- and, where each `and` and `or` has two members or more, it is regular where there is one

size : Formulas → ℕ
size Nil = 0
size (Cons f fs) = suc (size fs)

two_members : (fs : Formulas) → has_two fs ≡ true → 2 ≤ size fs
unfolding size
two_members Nil h = absurd (false≢true h)
two_members (Cons f Nil) h = absurd (false≢true h)
two_members (Cons f (Cons g fs)) h = omega arith

mutual
  unfolding is_wide all_wide disjuncts all_disjuncts size

  some_disjunct : (f : Formula) (sign : Bool) → is_wide f ≡ true → 1 ≤ length (disjuncts sign f)
  some_disjunct (Truth b) sign h = omega arith
  some_disjunct (Comparison q variable relation side) sign h = omega arith
  some_disjunct (Watched q watch) sign h = omega arith
  some_disjunct (InTransit p q relation m) sign h = omega arith
  some_disjunct (Empty p q) sign h = omega arith
  some_disjunct (Difference p x q y relation m) sign h = omega arith
  some_disjunct (Not f) sign h = cond_both (is_local (Not f)) (parts sign (Not f) ∷ []) (disjuncts (not sign) f) (λ ds. 1 ≤ length ds) (λ t. omega arith) (λ t. some_disjunct f (not sign) h)
  some_disjunct (And fs) true h = omega arith
  some_disjunct (And fs) false h = cond_both (is_local (And fs)) (parts false (And fs) ∷ []) (all_disjuncts false fs) (λ ds. 1 ≤ length ds) (λ t. omega arith)
      (λ t. let w = and_parts (has_two fs) (all_wide fs) h in omega (arith, each_disjunct fs false w.1, two_members fs w.0))
  some_disjunct (Or fs) true h = cond_both (is_local (Or fs)) (parts true (Or fs) ∷ []) (all_disjuncts true fs) (λ ds. 1 ≤ length ds) (λ t. omega arith)
      (λ t. let w = and_parts (has_two fs) (all_wide fs) h in omega (arith, each_disjunct fs true w.1, two_members fs w.0))
  some_disjunct (Or fs) false h = omega arith
  some_disjunct (Temporal operator f) sign h = omega arith
  some_disjunct (Next process f) sign h = omega arith
  some_disjunct (Until all left right) sign h = omega arith

  each_disjunct : (fs : Formulas) (sign : Bool) → all_wide fs ≡ true → size fs ≤ length (all_disjuncts sign fs)
  each_disjunct Nil sign h = omega arith
  each_disjunct (Cons f fs) sign h =
      let w = and_parts (is_wide f) (all_wide fs) h in
      omega (arith, length-append (disjuncts sign f) (all_disjuncts sign fs), some_disjunct f sign w.0, each_disjunct fs sign w.1)

-- two disjuncts or more are not one
more_than_one : (fs : Formulas) (sign : Bool) → (has_two fs && all_wide fs) ≡ true → length (all_disjuncts sign fs) ≡ 1 → ⊥
more_than_one fs sign h e = let w = and_parts (has_two fs) (all_wide fs) h in absurd (omega (arith, e, each_disjunct fs sign w.1, two_members fs w.0))

pub conjunctive_where_one : (f : Formula) (sign : Bool) → is_wide f ≡ true → is_disjunctive sign f ≡ true → length (disjuncts sign f) ≡ 1 → is_conjunctive sign f ≡ true
unfolding is_wide all_wide is_conjunctive all_conjunctive is_disjunctive all_disjunctive disjuncts all_disjuncts
conjunctive_where_one (Truth b) sign w h e = refl
conjunctive_where_one (Comparison q variable relation side) sign w h e = h
conjunctive_where_one (Watched q watch) sign w h e = refl
conjunctive_where_one (InTransit p q relation m) sign w h e = h
conjunctive_where_one (Empty p q) sign w h e = refl
conjunctive_where_one (Difference p x q y relation m) sign w h e = h
conjunctive_where_one (Not f) sign w h e = elim (or_cases (is_local (Not f) || is_conjunctive (not sign) f) (is_disjunctive (not sign) f) h) [
  | inl c ↦ c
  | inr d ↦ elim (cases_Bool (is_local (Not f))) [
    | inl t ↦ or_left (is_local (Not f)) (is_conjunctive (not sign) f) t
    | inr n ↦ or_right (is_local (Not f)) (is_conjunctive (not sign) f) (conjunctive_where_one f (not sign) w d (ap length (sym (cond-false (is_local (Not f)) (parts sign (Not f) ∷ []) (disjuncts (not sign) f) n)) ∙ e))
  ]
]
conjunctive_where_one (And fs) true w h e = h
conjunctive_where_one (And fs) false w h e = elim (cases_Bool (is_local (And fs))) [
  | inl t ↦ t
  | inr n ↦ absurd (more_than_one fs false w (ap length (sym (cond-false (is_local (And fs)) (parts false (And fs) ∷ []) (all_disjuncts false fs) n)) ∙ e))
]
conjunctive_where_one (Or fs) true w h e = elim (cases_Bool (is_local (Or fs))) [
  | inl t ↦ t
  | inr n ↦ absurd (more_than_one fs true w (ap length (sym (cond-false (is_local (Or fs)) (parts true (Or fs) ∷ []) (all_disjuncts true fs) n)) ∙ e))
]
conjunctive_where_one (Or fs) false w h e = h
conjunctive_where_one (Temporal operator f) sign w h e = h
conjunctive_where_one (Next process f) sign w h e = h
conjunctive_where_one (Until all left right) sign w h e = absurd (false≢true h)

pub regular_is_one : (f : Formula) → is_wide f ≡ true → IsOfClass f → IsRegular f ↔ (length (disjuncts true f) ≡ 1)
regular_is_one f w h = (λ k. one_where_conjunctive f true k, λ e. conjunctive_where_one f true w h e)
