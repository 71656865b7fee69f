-- Nodes that get a number.
use Rattle.std.proofs.Common.{◌≡◌, ◌⊎◌, ℕ, zero, suc, ◌+◌, ◌<◌, List, [], ◌∷◌, ◌++◌, length, get_or, set, take, refl, sym, ap, ◌∙◌, subst, arith, inl, inr, length-append, get_or-set_same, get_or-set_other}
use Rattle.std.specs.Prelude.{◌==◌, if◌then◌else◌}
use Rattle.std.specs.List.{Contains}
use Rattle.std.proofs.lemmas.Bool.{cases_eq, cond-true, cond-false, eq-eqb, ne_eqb}
use Rattle.std.proofs.lemmas.List.{length-set, take_more, get_or_default}
use Rattle.std.proofs.lemmas.List.Sums.{sum_by-set}
use Rattle.std.proofs.lemmas.List.Elements.{Contains-append_left, Contains-append_right, Contains-append_cases, Contains-push, Contains-push_cases}
use Rattle.greatest_reach.specs.inside.Flow.{AreMarked}

-- only what is there has a number
pub is_there : (xs : List ℕ) (e : ℕ) → 0 < get_or xs e 0 → e < length xs
is_there [] e h = absurd (omega (arith, h))
is_there (x ∷ xs) zero h = omega arith
is_there (x ∷ xs) (suc e) h = omega (arith, is_there xs e h)

none_in : (e : ℕ) → Contains {X = ℕ} [] e → ⊥
none_in e h = omega (arith, h.1)

abbrev one : ℕ → ℕ
one v = if v == 0 then 1 else 0

only : (node e : ℕ) → Contains (node ∷ []) e → node ≡ e
only node e h = elim (Contains-push_cases [] node e h) [ inl none ↦ absurd (none_in e none) | inr is ↦ is ]

-- it has a number already
pub passed : (node value : ℕ) (old before : List ℕ) → 0 < get_or old node 0 → AreMarked (node ∷ []) value old old before before
passed node value old before some = record {
  width = refl;
  kept = λ e h. refl;
  all = λ e h. subst (λ (k : ℕ). 0 < get_or old k 0) (only node e h) some;
  added = λ e h. inl h;
  stays = λ e h. h;
  stacked = λ e h. inl h;
  left = refl;
}

pub marked : (node value : ℕ) (old before : List ℕ) → 0 < value → node < length old → get_or old node 0 ≡ 0 → AreMarked (node ∷ []) value old (set old node value) before (before ++ node ∷ [])
marked node value old before some lt none = record {
  width = length-set old node value;
  kept = λ e h. get_or-set_other old node e value 0 (λ is. omega (arith, h, none, ap (λ (k : ℕ). get_or old k 0) is));
  all = λ e h. omega (arith, some, own, ap (λ (k : ℕ). get_or (set old node value) k 0) (only node e h));
  added = λ e h. elim (cases_eq e node) [
    | inl is ↦ inr (subst (Contains (node ∷ [])) (sym is) (Contains-push [] node), ap (λ (k : ℕ). get_or (set old node value) k 0) is ∙ own, subst (Contains (before ++ node ∷ [])) (sym is) (Contains-push before node))
    | inr other ↦ inl (omega (arith, h, get_or-set_other old node e value 0 other))
  ];
  stays = λ e h. Contains-append_left before (node ∷ []) e h;
  stacked = λ e h. elim (Contains-push_cases before node e h) [
    | inl there ↦ inl there
    | inr is ↦ inr (ap (λ (k : ℕ). get_or (set old node value) k 0) (sym is) ∙ own)
  ];
  left =
      let sums = sum_by-set one old node value 0 lt in
      let new_ : one value ≡ 0 = cond-false (value == 0) 1 0 (ne_eqb value 0 (λ q. omega (arith, some, q))) in
      let was : one (get_or old node 0) ≡ 1 = cond-true (get_or old node 0 == 0) 1 0 (eq-eqb (get_or old node 0) 0 none) in
      omega (arith, sums, new_, was, length-append before (node ∷ []));
}
  where
    own : get_or (set old node value) node 0 ≡ value
    own = get_or-set_same old node value 0 lt

pub more_marked : (xs ys : List ℕ) (value : ℕ) (a b c s t u : List ℕ) → 0 < value → AreMarked xs value a b s t → AreMarked ys value b c t u → AreMarked (xs ++ ys) value a c s u
more_marked xs ys value a b c s t u some one other = record {
  width = other.width ∙ one.width;
  kept = λ e h. other.kept e (omega (arith, h, one.kept e h)) ∙ one.kept e h;
  all = λ e h. elim (Contains-append_cases xs ys e h) [
    | inl k ↦ let had = one.all e k in omega (arith, had, other.kept e had)
    | inr k ↦ other.all e k
  ];
  added = added;
  stays = λ e h. other.stays e (one.stays e h);
  stacked = stacked;
  left = omega (arith, one.left, other.left);
}
  where
    added : (e : ℕ) → 0 < get_or c e 0 → (0 < get_or a e 0) ⊎ (Contains (xs ++ ys) e × (get_or c e 0 ≡ value) × Contains u e)
    added e h = elim (other.added e h) [
      | inr k ↦ inr (right e k.0, k.1, k.2)
      | inl had ↦ elim (one.added e had) [
        | inl first ↦ inl first
        | inr k ↦ inr (Contains-append_left xs ys e k.0, other.kept e had ∙ k.1, other.stays e k.2)
      ]
    ]
      where
        right : (x : ℕ) → Contains ys x → Contains (xs ++ ys) x
        right x k = Contains-append_right xs ys x k

    stacked : (e : ℕ) → Contains u e → Contains s e ⊎ (get_or c e 0 ≡ value)
    stacked e h = elim (other.stacked e h) [
      | inr k ↦ inr k
      | inl k ↦ elim (one.stacked e k) [
        | inl first ↦ inl first
        | inr is ↦ inr (other.kept e (omega (arith, some, is)) ∙ is)
      ]
    ]

-- the step of a loop
pub next_marked : (nodes : List ℕ) (i node value : ℕ) (a b c s t u : List ℕ) → 0 < value → i < length nodes → node ≡ get_or nodes i node → AreMarked (take i nodes) value a b s t → AreMarked (node ∷ []) value b c t u
    → AreMarked (take (i + 1) nodes) value a c s u
next_marked nodes i node value a b c s t u some lt at one other =
    let next : take (i + 1) nodes ≡ take i nodes ++ node ∷ [] = take_more nodes i node lt ∙ ap (λ (x : ℕ). take i nodes ++ x ∷ []) (sym at) in
    subst (λ (xs : List ℕ). AreMarked xs value a c s u) (sym next) (more_marked (take i nodes) (node ∷ []) value a b c s t u some one other)

pub marked_on : (nodes : List ℕ) (i value : ℕ) (a b c s t u : List ℕ) → 0 < value → i < length nodes → get_or nodes i 0 < length b → get_or b (get_or nodes i 0) 0 ≡ 0 → c ≡ set b (get_or nodes i 0) value → u ≡ t ++ get_or nodes i 0 ∷ []
    → AreMarked (take i nodes) value a b s t → AreMarked (take (i + 1) nodes) value a c s u
marked_on nodes i value a b c s t u some lt there none is pushed one =
    let node = get_or nodes i 0 in
    let step : AreMarked (node ∷ []) value b c t u =
    subst (λ (ys : List ℕ). AreMarked (node ∷ []) value b c t ys) (sym pushed) (subst (λ (xs : List ℕ). AreMarked (node ∷ []) value b xs t (t ++ node ∷ [])) (sym is) (marked node value b t some there none)) in
    next_marked nodes i node value a b c s t u some lt (get_or_default nodes i 0 node lt) one step

pub passed_on : (nodes : List ℕ) (i value : ℕ) (a b c s t u : List ℕ) → 0 < value → i < length nodes → (get_or b (get_or nodes i 0) 0 ≡ 0 → ⊥) → c ≡ b → u ≡ t → AreMarked (take i nodes) value a b s t
    → AreMarked (take (i + 1) nodes) value a c s u
passed_on nodes i value a b c s t u some lt had is same one =
    let node = get_or nodes i 0 in
    let step : AreMarked (node ∷ []) value b c t u =
    subst (λ (ys : List ℕ). AreMarked (node ∷ []) value b c t ys) (sym same) (subst (λ (xs : List ℕ). AreMarked (node ∷ []) value b xs t t) (sym is) (passed node value b t (more_than (get_or b node 0) had))) in
    next_marked nodes i node value a b c s t u some lt (get_or_default nodes i 0 node lt) one step
  where
    more_than : (n : ℕ) → (n ≡ 0 → ⊥) → 0 < n
    more_than zero h = absurd (h refl)
    more_than (suc n) h = omega arith
