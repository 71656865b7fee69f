-- The test of links tells what an item looks back on, and the greatest number is found.
use Rattle.std.proofs.Common.{◌≡◌, ◌⊎◌, ℕ, zero, suc, ◌<◌, ◌≤◌, Bool, true, false, ◌||◌, List, [], ◌∷◌, refl, sym, ap, ◌∙◌, subst, arith, inl, inr}
use Rattle.std.specs.Prelude.{max, ◌&&◌, if◌then◌else◌}
use Rattle.std.proofs.lemmas.Bool.{and_parts, and_from}
use Rattle.greatest_reach.specs.Back.{Back, itself, further, IsGreatest, reaches, greatest_where, greatest_given}

-- ---- ways of one or more links, with these items in between

abbrev pub Among : {N : Type 0} → N → List N → Type 0
Among x [] = ⊥
Among x (p ∷ ps) = (x ≡ p) ⊎ Among x ps

data Way {N : Type 0} (Link : N → N → Type 0) (ps : List N) (x : N) : N → Type 0 where
  step : {y : N} → Link x y → Way Link ps x y
  on : {p y : N} → Way Link ps x p → Among p ps → Link p y → Way Link ps x y

-- a way either goes round an item, or through it
split : {N : Type 0} (Link : N → N → Type 0) (p : N) (ps : List N) (x y : N) → Way Link (p ∷ ps) x y → Way Link ps x y ⊎ (Way Link ps x p × Way Link ps p y)
split Link p ps x y (step l) = inl (step l)
split Link p ps x y (on {p = m} w c l) = go (split Link p ps x m w) c
  where
    go : Way Link ps x m ⊎ (Way Link ps x p × Way Link ps p m) → (m ≡ p) ⊎ Among m ps → Way Link ps x y ⊎ (Way Link ps x p × Way Link ps p y)
    go (inl v) (inl is) = inr (subst (Way Link ps x) is v, step (subst (λ (k : _). Link k y) is l))
    go (inl v) (inr there) = inl (on v there l)
    go (inr parts) (inl is) = inr (parts.0, step (subst (λ (k : _). Link k y) is l))
    go (inr parts) (inr there) = inr (parts.0, on parts.1 there l)

module _ {N : Type 0} (link : N → N → Bool) where
  abbrev pub Tests : N → N → Type 0
  Tests x y = link x y ≡ true

  either : (a b : Bool) → (a || b) ≡ true → (a ≡ true) ⊎ (b ≡ true)
  either true b h = inl refl
  either false b h = inr h

  first_of : (a b : Bool) → a ≡ true → (a || b) ≡ true
  first_of true b h = refl
  first_of false b h = cc

  second_of : (a b : Bool) → b ≡ true → (a || b) ≡ true
  second_of true b h = refl
  second_of false b h = h

  further_back : (x p y : N) → Back Tests x p → Back Tests p y → Back Tests x y
  further_back x p y a itself = a
  further_back x p y a (further {x = m} b l) = further (further_back x p m a b) l

  reach_back : (ps : List N) (x y : N) → reaches link ps x y ≡ true → Back Tests x y
  unfolding reaches
  reach_back [] x y h = further itself h
  reach_back (p ∷ ps) x y h = elim (either (reaches link ps x y) (reaches link ps x p && reaches link ps p y) h) [
    | inl a ↦ reach_back ps x y a
    | inr b ↦
        let parts = and_parts (reaches link ps x p) (reaches link ps p y) b in
        further_back x p y (reach_back ps x p parts.0) (reach_back ps p y parts.1)
  ]

  way_reaches : (ps : List N) (x y : N) → Way Tests ps x y → reaches link ps x y ≡ true
  unfolding reaches
  way_reaches [] x y (step l) = l
  way_reaches [] x y (on w c l) = absurd c
  way_reaches (p ∷ ps) x y w = elim (split Tests p ps x y w) [
    | inl a ↦ first_of (reaches link ps x y) _ (way_reaches ps x y a)
    | inr b ↦ second_of (reaches link ps x y) _ (and_from (reaches link ps x p) (reaches link ps p y) (way_reaches ps x p b.0) (way_reaches ps p y b.1))
  ]

  back_way : (items : List N) → ((x y : N) → Tests x y → Among x items) → (e x : N) → Back Tests e x → (x ≡ e) ⊎ Way Tests items e x
  back_way items there e x itself = inl refl
  back_way items there e x (further {x = m} b l) = elim (back_way items there e m b) [
    | inl is ↦ inr (step (subst (λ (k : N). Tests k x) is l))
    | inr w ↦ inr (on w (there m x l) l)
  ]

-- ---- the greatest number of a list

at_least : (b : Bool) (n m : ℕ) → b ≡ true → n ≤ max (if b then n else 0) m
at_least true n m h = omega arith
at_least false n m h = absurd cc

where_above : {N : Type 0} (test : N → Bool) (given : N → ℕ) (items : List N) (x : N) → Among x items → test x ≡ true → given x ≤ greatest_where test given items
unfolding greatest_where
where_above test given [] x there h = absurd there
where_above test given (p ∷ ps) x (inl is) h =
    subst (λ (k : _). given k ≤ max (if test p then given p else 0) (greatest_where test given ps)) (sym is)
    (at_least (test p) (given p) (greatest_where test given ps) (ap test (sym is) ∙ h))
where_above test given (p ∷ ps) x (inr there) h = omega (arith, where_above test given ps x there h)

abbrev IsReached : {N : Type 0} → (N → Bool) → (N → ℕ) → ℕ → Type 0
IsReached test given n = (n ≡ 0) ⊎ ((x : _) × (test x ≡ true) × (n ≡ given x))

reached_max : {N : Type 0} (test : N → Bool) (given : N → ℕ) (p : N) (b : Bool) (m : ℕ) → test p ≡ b → IsReached test given m → IsReached test given (max (if b then given p else 0) m)
reached_max test given p false m is so = subst (IsReached test given) (omega arith) so
reached_max test given p true m is so = elim (larger (given p) m) [
  | inl own ↦ inr (p, is, own)
  | inr other ↦ subst (IsReached test given) (sym other) so
]
  where
    larger : (a c : ℕ) → (max a c ≡ a) ⊎ (max a c ≡ c)
    larger zero c = inr (omega arith)
    larger (suc a) zero = inl (omega arith)
    larger (suc a) (suc c) = elim (larger a c) [ inl h ↦ inl (omega (arith, h)) | inr h ↦ inr (omega (arith, h)) ]

where_reached : {N : Type 0} (test : N → Bool) (given : N → ℕ) (items : List N) → IsReached test given (greatest_where test given items)
unfolding greatest_where
where_reached test given [] = inl refl
where_reached test given (p ∷ ps) = reached_max test given p (test p) (greatest_where test given ps) refl (where_reached test given ps)

-- ---- the tests tell links and gifts

pub record Told {N : Type 0} (Link : N → N → Type 0) (Gives : N → ℕ → Type 0) (link : N → N → Bool) (given : N → ℕ) (items : List N) : Type 0 where
  pub right : (x y : N) → link x y ≡ true → Link x y
  pub all : (x y : N) → Link x y → link x y ≡ true
  pub links : (x y : N) → Link x y → Among x items
  pub gives : (x : N) (n : ℕ) → Gives x n → Among x items × (n ≡ given x)
  pub given_is : (x : N) → 0 < given x → Gives x (given x)

back_as : {N : Type 0} (One Other : N → N → Type 0) → ((x y : N) → One x y → Other x y) → (e x : N) → Back One e x → Back Other e x
back_as One Other turn e x itself = itself
back_as One Other turn e x (further {x = m} b l) = further (back_as One Other turn e m b) (turn m x l)

pub found : {N : Type 0} (Link : N → N → Type 0) (Gives : N → ℕ → Type 0) (link : N → N → Bool) (given : N → ℕ) (items : List N) → Told Link Gives link given items
    → (e : N) → IsGreatest Link Gives e (greatest_given link given items e)
found Link Gives link given items t e = record { above = above; reached = start }
  where
    above : (x : _) → Back Link e x → (n : ℕ) → Gives x n → n ≤ greatest_given link given items e
    above x b n g = elim (back_way link items (λ y z l. t.links y z (t.right y z l)) e x (back_as Link (Tests link) t.all e x b)) [
      | inl is ↦ omega (arith, (t.gives x n g).1, ap given is)
      | inr w ↦
          let low = where_above (reaches link items e) given items x (t.gives x n g).0 (way_reaches link items e x w) in
          omega (arith, (t.gives x n g).1, low)
    ]

    back : (x : _) → reaches link items e x ≡ true → Back Link e x
    back x h = back_as (Tests link) Link t.right e x (reach_back link items e x h)

    pick : (a m : ℕ) → a ≡ given e → IsReached (reaches link items e) given m → (max a m ≡ 0) ⊎ ((x : _) × Back Link e x × Gives x (max a m))
    pick a m own so = go (max a m) refl
      where
        go : (n : ℕ) → max a m ≡ n → (n ≡ 0) ⊎ ((x : _) × Back Link e x × Gives x n)
        go zero is = inl refl
        go (suc k) is = side (larger a m)
          where
            larger : (b c : ℕ) → (max b c ≡ b) ⊎ (max b c ≡ c)
            larger zero c = inr (omega arith)
            larger (suc b) zero = inl (omega arith)
            larger (suc b) (suc c) = elim (larger b c) [ inl h ↦ inl (omega (arith, h)) | inr h ↦ inr (omega (arith, h)) ]

            one : (x : _) → suc k ≡ given x → Back Link e x → (suc k ≡ 0) ⊎ ((y : _) × Back Link e y × Gives y (suc k))
            one x at b = inr (x, b, subst (Gives x) (sym at) (t.given_is x (omega (arith, at))))

            side : (max a m ≡ a) ⊎ (max a m ≡ m) → (suc k ≡ 0) ⊎ ((y : _) × Back Link e y × Gives y (suc k))
            side (inl h) = one e (sym is ∙ h ∙ own) itself
            side (inr h) = elim so [
              | inl none ↦ absurd (omega (arith, is, h, none))
              | inr there ↦ one there.0 (sym is ∙ h ∙ there.2) (back there.0 there.1)
            ]

    start : (greatest_given link given items e ≡ 0) ⊎ ((x : _) × Back Link e x × Gives x (greatest_given link given items e))
    start = pick (given e) (greatest_where (reaches link items e) given items) refl (where_reached (reaches link items e) given items)
