-- The last shown events, one event further, and in a table.
use Rattle.std.proofs.Common.{◌≡◌, ℕ, zero, suc, ◌+◌, ◌-◌, ◌<◌, ◌≤◌, Bool, true, false, ◌||◌, [], ◌∷◌, ◌++◌, length, get_or, refl, sym, ap, subst, ◌∙◌, arith, inl, inr, add-one}
use Rattle.std.specs.Prelude.{max}
use Rattle.std.proofs.lemmas.Bool.{cases_Bool, cases_eq, false≢true}
use Rattle.std.proofs.lemmas.List.{length-append, get_or_append_left, get_or_push}
use Rattle.view_parts.specs.Each.{each_below}
use Rattle.view_picture.specs.Columns.{Rows, column}
use Rattle.view_picture.specs.Shown.{last_shown}
use Rattle.view_picture.specs.Ties.{any_below}
use Rattle.view_picture.specs.inside.Placing.{greatest_below, latest_of}
use Rattle.view_picture.proofs.Shown.{less, not_less, last_here, last_before}

pub each_length : (f : ℕ → ℕ) (n : ℕ) → length (each_below n (λ k. f k ∷ [])) ≡ n
each_length f zero = refl
each_length f (suc n) = length-append (each_below n (λ k. f k ∷ [])) (f n ∷ []) ∙ ap (λ (k : ℕ). k + 1) (each_length f n) ∙ add-one n

pub each_at : (f : ℕ → ℕ) (n k : ℕ) → k < n → get_or (each_below n (λ k. f k ∷ [])) k 0 ≡ f k
each_at f zero k lt = absurd (omega (arith, lt))
each_at f (suc n) k lt = elim (cases_eq k n) [
  | inl same ↦
      let at : get_or (each_below n (λ k. f k ∷ []) ++ f n ∷ []) n 0 ≡ f n = get_or_push (each_below n (λ k. f k ∷ [])) (f n) 0 n (each_length f n) in
      subst (λ (j : ℕ). get_or (each_below n (λ k. f k ∷ []) ++ f n ∷ []) j 0 ≡ f j) (sym same) at
  | inr other ↦ get_or_append_left (each_below n (λ k. f k ∷ [])) (f n ∷ []) 0 k (omega (arith, lt, other, each_length f n)) ∙ each_at f n k (omega (arith, lt, other))
]

pub latest_at : (rows : Rows) (p n : ℕ) → n < length (get_or rows p []) → get_or (latest_of rows p) n 0 ≡ last_shown rows p n
latest_at rows p n lt = each_at (last_shown rows p) (length (get_or rows p [])) n lt

pub shown_here : (rows : Rows) (p n : ℕ) → column rows p (n - 1) < column rows p n → last_shown rows p n ≡ n
shown_here rows p zero lt =
    let none : zero - 1 ≡ zero = omega arith in
    absurd (omega (arith, lt, ap (column rows p) none))
shown_here rows p (suc n) lt = last_here rows p n (less (column rows p (suc n - 1)) (column rows p (suc n)) lt)

pub not_here : (rows : Rows) (p n : ℕ) → column rows p n ≤ column rows p (n - 1) → last_shown rows p n ≡ last_shown rows p (n - 1)
not_here rows p zero le =
    let none : zero ≡ zero - 1 = omega arith in
    ap (last_shown rows p) none
not_here rows p (suc n) le =
    let back : n ≡ suc n - 1 = omega arith in
    last_before rows p n (not_less (column rows p (suc n - 1)) (column rows p (suc n)) le) ∙ ap (last_shown rows p) back

-- ---- numbers below another

pub greatest_none : (f : ℕ → ℕ) → greatest_below f zero ≡ 0
unfolding greatest_below
greatest_none f = refl

greatest_suc : (f : ℕ → ℕ) (n : ℕ) → greatest_below f (suc n) ≡ max (greatest_below f n) (f n)
unfolding greatest_below
greatest_suc f n = refl

pub greatest_more : (f : ℕ → ℕ) (n : ℕ) → greatest_below f (n + 1) ≡ max (greatest_below f n) (f n)
greatest_more f n = ap (greatest_below f) (add-one n) ∙ greatest_suc f n

pub any_none : (passes : ℕ → Bool) → any_below passes zero ≡ false
unfolding any_below
any_none passes = refl

any_suc : (passes : ℕ → Bool) (n : ℕ) → any_below passes (suc n) ≡ (any_below passes n || passes n)
unfolding any_below
any_suc passes n = refl

pub any_more : (passes : ℕ → Bool) (n : ℕ) → any_below passes n ≡ false → passes n ≡ false → any_below passes (n + 1) ≡ false
any_more passes n before last = ap (any_below passes) (add-one n) ∙ any_suc passes n ∙ both (any_below passes n) (passes n) before last
  where
    both : (a b : Bool) → a ≡ false → b ≡ false → (a || b) ≡ false
    both true b h k = h
    both false b h k = k

pub any_found : (passes : ℕ → Bool) (n k : ℕ) → k < n → passes k ≡ true → any_below passes n ≡ true
any_found passes zero k lt h = absurd (omega (arith, lt))
any_found passes (suc n) k lt h = elim (cases_eq k n) [
  | inl same ↦ any_suc passes n ∙ right (any_below passes n) (passes n) (subst (λ (j : ℕ). passes j ≡ true) same h)
  | inr other ↦ any_suc passes n ∙ left (any_below passes n) (passes n) (any_found passes n k (omega (arith, lt, other)) h)
]
  where
    right : (a b : Bool) → b ≡ true → (a || b) ≡ true
    right true b h = refl
    right false b h = h

    left : (a b : Bool) → a ≡ true → (a || b) ≡ true
    left true b h = refl
    left false b h = cc

-- where one passes, it is found
pub any_is : (passes : ℕ → Bool) (n : ℕ) → any_below passes n ≡ true → (k : ℕ) × (k < n) × (passes k ≡ true)
any_is passes zero h = absurd (false≢true (sym (any_none passes) ∙ h))
any_is passes (suc n) h = elim (cases_Bool (passes n)) [
  | inl last ↦ (n, omega arith, last)
  | inr other ↦
      let before = any_is passes n (earlier (any_below passes n) (passes n) other (sym (any_suc passes n) ∙ h)) in
      (before.0, omega (arith, before.1), before.2)
]
  where
    earlier : (a b : Bool) → b ≡ false → (a || b) ≡ true → a ≡ true
    earlier true b k h = refl
    earlier false b k h = absurd (false≢true (sym k ∙ h))
