-- What is looked back on may be cut off at items whose greatest number is known.
use Rattle.std.proofs.Common.{◌≡◌, ◌⊎◌, ℕ, ◌≤◌, arith, inl, inr}
use Rattle.greatest_reach.specs.Back.{Back, itself, further, IsGreatest}

pub back_on : {N : Type 0} (Link : N → N → Type 0) (x y z : N) → Back Link x y → Back Link y z → Back Link x z
back_on Link x y z a itself = a
back_on Link x y z a (further {x = m} b l) = further (back_on Link x y m a b) l

turned : {N : Type 0} (One Other : N → N → Type 0) → ((x y : N) → One x y → Other x y) → (e x : N) → Back One e x → Back Other e x
turned One Other turn e x itself = itself
turned One Other turn e x (further {x = m} b l) = further (turned One Other turn e m b) (turn m x l)

-- the fewer links leave out those of old items, each of which gives its own greatest number
pub record CutsOff {N : Type 0} (Link Fewer : N → N → Type 0) (Gives Given : N → ℕ → Type 0) (Old : N → Type 0) : Type 0 where
  pub decides : (x : N) → Old x ⊎ (Old x → ⊥)
  pub fewer : (x y : N) → Fewer x y → Link x y
  pub kept : (x y : N) → (Old x → ⊥) → Link x y → Fewer x y
  pub gives : (x : N) (n : ℕ) → (Old x → ⊥) → Given x n → Gives x n
  pub given : (x : N) (n : ℕ) → (Old x → ⊥) → Gives x n → Given x n
  pub known : (x : N) (n : ℕ) → Old x → Given x n → IsGreatest Link Gives x n
  pub has : (x : N) → Old x → (n : ℕ) × Given x n

module _ {N : Type 0} (Link Fewer : N → N → Type 0) (Gives Given : N → ℕ → Type 0) (Old : N → Type 0) (cuts : CutsOff Link Fewer Gives Given Old) where
  -- reached by new items alone, or behind an old item that is so reached
  abbrev Sides : N → N → Type 0
  Sides e x = (Back Fewer e x × (Old x → ⊥)) ⊎ ((o : N) × Old o × Back Fewer e o × Back Link o x)

  sides : (e x : N) → Back Link e x → Sides e x
  sides e x itself = elim (cuts.decides e) [ inl old ↦ inr (e, old, itself, itself) | inr new_ ↦ inl (itself, new_) ]
  sides e x (further {x = m} b l) = elim (sides e m b) [
    | inl here ↦
        let on = further here.0 (cuts.kept m x here.1 l) in
        elim (cuts.decides x) [ inl old ↦ inr (x, old, on, itself) | inr new_ ↦ inl (on, new_) ]
    | inr there ↦ inr (there.0, there.1, there.2, further there.3 l)
  ]

  pub cut_off : (e : N) (n : ℕ) → IsGreatest Fewer Given e n → IsGreatest Link Gives e n
  cut_off e n is = record { above = above; reached = reached }
    where
      above : (x : N) → Back Link e x → (k : ℕ) → Gives x k → k ≤ n
      above x b k g = elim (sides e x b) [
        | inl here ↦ is.above x here.0 k (cuts.given x k here.1 g)
        | inr there ↦
            let own = cuts.has there.0 there.1 in
            let low = is.above there.0 there.2 own.0 own.1 in
            let most = (cuts.known there.0 own.0 there.1 own.1).above x there.3 k g in
            omega (arith, low, most)
      ]

      whole : (x : N) → Back Fewer e x → Back Link e x
      whole x b = turned Fewer Link cuts.fewer e x b

      reached : (n ≡ 0) ⊎ ((x : N) × Back Link e x × Gives x n)
      reached = elim is.reached [
        | inl none ↦ inl none
        | inr there ↦ elim (cuts.decides there.0) [
          | inr new_ ↦ inr (there.0, whole there.0 there.1, cuts.gives there.0 n new_ there.2)
          | inl old ↦ elim (cuts.known there.0 n old there.2).reached [
            | inl none ↦ inl none
            | inr further_on ↦ inr (further_on.0, back_on Link e there.0 further_on.0 (whole there.0 there.1) further_on.1, further_on.2)
          ]
        ]
      ]

-- relations that agree within a set that the links don't leave
pub record Agrees {N : Type 0} (Link Other : N → N → Type 0) (Gives Given : N → ℕ → Type 0) (In : N → Type 0) : Type 0 where
  pub stays : (x y : N) → In x → Link x y → In y
  pub link : (x y : N) → In x → Link x y → Other x y
  pub linked : (x y : N) → In x → Other x y → Link x y
  pub gives : (x : N) (n : ℕ) → In x → Gives x n → Given x n
  pub given : (x : N) (n : ℕ) → In x → Given x n → Gives x n

module _ {N : Type 0} (Link Other : N → N → Type 0) (Gives Given : N → ℕ → Type 0) (In : N → Type 0) (same : Agrees Link Other Gives Given In) where
  there : (e x : N) → In e → Back Link e x → In x × Back Other e x
  there e x within itself = (within, itself)
  there e x within (further {x = m} b l) =
      let here = there e m within b in
      (same.stays m x here.0 l, further here.1 (same.link m x here.0 l))

  back : (e x : N) → In e → Back Other e x → In x × Back Link e x
  back e x within itself = (within, itself)
  back e x within (further {x = m} b l) =
      let here = back e m within b in
      let k = same.linked m x here.0 l in
      (same.stays m x here.0 k, further here.1 k)

  pub same_within : (e : N) (n : ℕ) → In e → IsGreatest Link Gives e n → IsGreatest Other Given e n
  same_within e n within is = record {
    above = λ x b k g.
        let here = back e x within b in
        is.above x here.1 k (same.given x k here.0 g);
    reached = elim is.reached [
      | inl none ↦ inl none
      | inr at ↦
          let here = there e at.0 within at.1 in
          inr (at.0, here.1, same.gives at.0 n here.0 at.2)
    ];
  }
