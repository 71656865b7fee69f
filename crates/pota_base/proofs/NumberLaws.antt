-- A number that is read is spelled so, and what is spelled so is read.
use Rattle.std.proofs.Common.{◌≡◌, ℕ, suc, ◌+◌, ◌-◌, ◌*◌, ◌/◌, ◌%◌, ◌^◌, ◌<◌, ◌≤◌, ◌++◌, List, [], ◌∷◌, length, Option, Some, None, Bool, true, false, refl, sym, ap, ◌∙◌, arith, inl, inr, append_assoc, append-nil, subst, length-append}
use Rattle.std.proofs.lemmas.Bool.{cases_Bool, cases_lt, le-leb, lt-leb, lt-ltb}
use Rattle.std.proofs.lemmas.Fmt.{decimal_by_steps, decimal_digit, decimal_nonempty, decimal_step}
use Rattle.std.proofs.lemmas.Option.{same_Some}
use Rattle.std.proofs.lemmas.Bool.Decides.{nat_tests}
use Rattle.std.proofs.lemmas.Int.{ints}
use Rattle.std.specs.Prelude.{ℤ, pos, negsuc, ◌==◌, FitsSigned, IfSome}
use Rattle.std.specs.Int.{w64}
use Rattle.std.specs.Fmt.{decimal, signed_decimal}
use Rattle.pota_base.specs.Number.{is_digit}
use Rattle.pota_base.specs.Number.{digits_end, digits_from, is_leading_zero, number_at, minus_at, plus_at, signed_at, whole, ◌>>=◌}

-- digits that ended give what was read, and there was at least one
digits_end-some : (value len : ℕ) (xs : List ℕ) (v : ℕ) (rest : List ℕ) → digits_end value len xs ≡ Some (v, rest) → (0 < len) × (value ≡ v) × (xs ≡ rest)
digits_end-some value len xs v rest h = elim (cases_lt 0 len) [
  | inl some ↦
      let p = same_Some _ _ (rw (lt-ltb 0 len some) at h) in
      (some, ap (λ (q : ℕ × List ℕ). q.0) p, ap (λ (q : ℕ × List ℕ). q.1) p)
  | inr none ↦
      let e : len ≡ 0 = omega arith in
      let g = rw e at h in
      cc g
]

-- one digit more on the front of a number
next-front : (value len b : ℕ) (front : List ℕ) → is_digit b ≡ true → is_leading_zero value len ≡ false
    → value * 10 + (b - 48) < 2 ^ 64
    → (len ≡ 0 → (front ≡ []) × (value ≡ 0)) → (0 < len → front ≡ decimal value)
    → front ++ b ∷ [] ≡ decimal (value * 10 + (b - 48))
next-front value len b front d z small start run =
    let range : (48 ≤ b) × (b ≤ 57) = grind arith in
    elim (cases_lt 0 len) [
      | inl some ↦
          let other : 0 < value = grind arith in
          let step = decimal_step (value * 10 + (b - 48)) (omega arith) small in
          let top : (value * 10 + (b - 48)) / 10 ≡ value = omega arith in
          let low : 48 + (value * 10 + (b - 48)) % 10 ≡ b = omega arith in
          rw (run some) (sym (rw (top, low) at step))
      | inr none ↦
          let s = start (omega arith) in
          let e : value * 10 + (b - 48) ≡ b - 48 = rw s.1 (omega arith) in
          let low : 48 + (b - 48) ≡ b = omega arith in
          rw (s.0, e, decimal_digit (b - 48) (omega arith), low) refl
    ]

-- digits that were read are the text of what they give, with what is left after it
digits-text : (most value len : ℕ) (xs front : List ℕ) (v : ℕ) (rest : List ℕ) → most < 2 ^ 64
    → (len ≡ 0 → (front ≡ []) × (value ≡ 0)) → (0 < len → front ≡ decimal value) → value ≤ most
    → digits_from most value len xs ≡ Some (v, rest)
    → (front ++ xs ≡ decimal v ++ rest) × (v ≤ most)
unfolding digits_from
digits-text most value len [] front v rest wide start run fits h =
    let d = digits_end-some value len [] v rest h in
    (rw (run d.0, d.1, ← d.2) refl, rw (← d.1) fits)
digits-text most value len (b ∷ r) front v rest wide start run fits h =
    elim (cases_Bool (is_digit b)) [
      | inl digit ↦ elim (cases_Bool (is_leading_zero value len)) [
        | inl leading ↦ cc (rw (digit, leading) at h)
        | inr plain ↦ elim (cases_lt most (value * 10 + (b - 48))) [
          | inr small ↦
              let more = rw (digit, plain, le-leb _ _ small) at h in
              let next = next-front value len b front digit plain (omega arith) start run in
              let ih = digits-text most (value * 10 + (b - 48)) (len + 1) r (front ++ b ∷ []) v rest wide (λ e. absurd (omega arith)) (λ _. next) small more in
              (sym (append_assoc front (b ∷ []) r) ∙ ih.0, ih.1)
          | inl big ↦ cc (rw (digit, plain, lt-leb _ _ big) at h)
        ]
      ]
      | inr other ↦
          let d = digits_end-some value len (b ∷ r) v rest (rw other at h) in
          (rw (run d.0, d.1, d.2) refl, rw (← d.1) fits)
    ]

pub record NumberTaken (most : ℕ) (xs : List ℕ) (v : ℕ) (rest : List ℕ) : Type 0 where
  pub text : xs ≡ decimal v ++ rest
  pub bound : v ≤ most

-- a number that was read is the text of its value, with the rest after it
pub number_takes : (most : ℕ) (xs : List ℕ) (v : ℕ) (rest : List ℕ) → most < 2 ^ 64 → number_at most xs ≡ Some (v, rest) → NumberTaken most xs v rest
number_takes most xs v rest wide h =
    let t = digits-text most 0 0 xs [] v rest wide (λ _. (refl, refl)) (λ e. absurd (omega arith)) (omega arith) h in
    record { text = t.0; bound = t.1 }

-- one digit more
digits-cons : (most value len b : ℕ) (r : List ℕ) → is_digit b ≡ true → is_leading_zero value len ≡ false
    → value * 10 + (b - 48) ≤ most → digits_from most value len (b ∷ r) ≡ digits_from most (value * 10 + (b - 48)) (len + 1) r
unfolding digits_from
digits-cons most value len b r d z small = rw (d, z, le-leb _ _ small) refl

abbrev Runs : ℕ → ℕ → List ℕ → Type 0
Runs most n ds = n ≤ most → (rest : List ℕ) → digits_from most 0 0 (ds ++ rest) ≡ digits_from most n (length ds) rest

-- the digits of a number, read from the front
digits-run : (most n : ℕ) → most < 2 ^ 64 → n ≤ most → (rest : List ℕ)
    → digits_from most 0 0 (decimal n ++ rest) ≡ digits_from most n (length (decimal n)) rest
digits-run most n wide fits rest = decimal_by_steps (Runs most)
    (λ k low small r.
    let d : is_digit (48 + k) ≡ true = grind arith in
    let e : 0 * 10 + ((48 + k) - 48) ≡ k = omega arith in
    digits-cons most 0 0 (48 + k) r d refl (omega arith) ∙ rw e refl)
    (λ k ds big ih small r.
    let top : k / 10 ≤ most = omega arith in
    let g = 48 + k % 10 in
    let d : is_digit g ≡ true = grind arith in
    let z : is_leading_zero (k / 10) (length ds) ≡ false = grind arith in
    let e : (k / 10) * 10 + (g - 48) ≡ k = omega arith in
    let l : length ds + 1 ≡ length (ds ++ g ∷ []) = sym (length-append ds (g ∷ [])) in
    rw (append_assoc ds (g ∷ []) r) (ih top (g ∷ r) ∙ digits-cons most (k / 10) (length ds) g r d z (omega arith) ∙ rw (e, l) refl))
    n (omega arith) fits rest

-- whether a text starts with a digit
abbrev pub starts_digit : List ℕ → Bool
starts_digit [] = false
starts_digit (b ∷ r) = is_digit b

-- the text of a number reads back
pub number_again : (most v : ℕ) (rest : List ℕ) → most < 2 ^ 64 → v ≤ most → starts_digit rest ≡ false
    → number_at most (decimal v ++ rest) ≡ Some (v, rest)
unfolding digits_from
number_again most v [] wide fits h =
    let some = decimal_nonempty v (omega arith) in
    rw (digits-run most v wide fits [], lt-ltb 0 (length (decimal v)) some) refl
number_again most v (b ∷ r) wide fits h =
    let some = decimal_nonempty v (omega arith) in
    rw (digits-run most v wide fits (b ∷ r), h, lt-ltb 0 (length (decimal v)) some) refl

-- ---- numbers with a sign

bind_some : {A B : Type 0} (r : Option A) (f : A → Option B) (y : B) → (r >>= f) ≡ Some y → (x : A) × (r ≡ Some x) × (f x ≡ Some y)
bind_some None f y h = cc
bind_some (Some x) f y h = (x, refl, h)

pub record SignedTaken (xs : List ℕ) (v : ℤ) (rest : List ℕ) : Type 0 where
  pub text : xs ≡ signed_decimal v ++ rest
  pub fits : FitsSigned w64 v

minus_taken : (bs : List ℕ) (n : ℕ) (rest : List ℕ) → number_at (2 ^ 63) bs ≡ Some (n, rest) → 0 < n → SignedTaken (45 ∷ bs) (negsuc (n - 1)) rest
minus_taken bs n rest h some =
    let t = number_takes (2 ^ 63) bs n rest (omega arith) h in
    let e : suc (n - 1) ≡ n = omega arith in
    record { text = rw e (ap (λ (xs : List ℕ). 45 ∷ xs) t.text); fits = omega (arith, ints, t.bound) }

minus_takes : (bs : List ℕ) (v : ℤ) (rest : List ℕ) → minus_at bs ≡ Some (v, rest) → SignedTaken (45 ∷ bs) v rest
minus_takes bs v rest h =
    let b = bind_some (number_at (2 ^ 63) bs) _ (v, rest) h in
    elim (cases_Bool (b.0.0 == 0)) [
      | inl none ↦ cc (rw none at b.2)
      | inr some ↦
          let p = same_Some _ _ (rw some at b.2) in
          let positive : 0 < b.0.0 = grind (arith, nat_tests) in
          subst (λ (q : ℤ × List ℕ). SignedTaken (45 ∷ bs) q.0 q.1) p (minus_taken bs b.0.0 b.0.1 b.1 positive)
    ]

plus_takes : (bs : List ℕ) (v : ℤ) (rest : List ℕ) → plus_at bs ≡ Some (v, rest) → SignedTaken bs v rest
plus_takes bs v rest h =
    let b = bind_some (number_at (2 ^ 63 - 1) bs) _ (v, rest) h in
    let t = number_takes (2 ^ 63 - 1) bs b.0.0 b.0.1 (omega arith) b.1 in
    subst (λ (q : ℤ × List ℕ). SignedTaken bs q.0 q.1) (same_Some _ _ b.2) (record { text = t.text; fits = omega (arith, ints, t.bound) })

-- a number with a sign that was read is the text of its value, with the rest after it
pub signed_takes : (xs : List ℕ) (v : ℤ) (rest : List ℕ) → signed_at xs ≡ Some (v, rest) → SignedTaken xs v rest
unfolding signed_at
signed_takes [] v rest h = cc
signed_takes (b ∷ bs) v rest h = elim (cases_Bool (b == 45)) [
  | inl minus ↦
      let e : b ≡ 45 = grind (arith, nat_tests) in
      subst (λ (x : ℕ). SignedTaken (x ∷ bs) v rest) (sym e) (minus_takes bs v rest (rw minus at h))
  | inr plus ↦ plus_takes (b ∷ bs) v rest (rw plus at h)
]

-- a decimal begins with a digit, and so with no `-`
decimal_digits : (n : ℕ) → n < 2 ^ 64 → (rest : List ℕ) → starts_digit (decimal n ++ rest) ≡ true
decimal_digits n fits rest = decimal_by_steps (λ k ds. (more : List ℕ) → starts_digit (ds ++ more) ≡ true)
    (λ k low more. grind arith) (λ k ds big ih more. rw append_assoc (ih ((48 + k % 10) ∷ more))) n fits rest

plain_signed : (xs : List ℕ) → starts_digit xs ≡ true → signed_at xs ≡ plus_at xs
unfolding signed_at
plain_signed [] h = cc
plain_signed (b ∷ bs) h =
    let e : (b == 45) ≡ false = grind (arith, nat_tests) in
    rw e refl

-- the text of a number with a sign reads back
pub signed_again : (v : ℤ) (rest : List ℕ) → FitsSigned w64 v → starts_digit rest ≡ false → signed_at (signed_decimal v ++ rest) ≡ Some (v, rest)
unfolding signed_at
signed_again (pos n) rest fits other =
    let bound : n ≤ 2 ^ 63 - 1 = omega (arith, ints) in
    plain_signed (decimal n ++ rest) (decimal_digits n (omega arith) rest) ∙ rw (number_again (2 ^ 63 - 1) n rest (omega arith) bound other) refl
signed_again (negsuc n) rest fits other =
    let bound : suc n ≤ 2 ^ 63 = omega (arith, ints) in
    let some : (suc n == 0) ≡ false = grind (arith, nat_tests) in
    let e : suc n - 1 ≡ n = omega arith in
    rw (number_again (2 ^ 63) (suc n) rest (omega arith) bound other, some, e) refl

-- ---- whole texts

whole_some : {A : Type 0} (r : Option (A × List ℕ)) (v : A) → whole r ≡ Some v → r ≡ Some (v, [])
whole_some None v h = cc
whole_some {A} (Some (x, [])) v h = ap (λ (y : A). Some (y, [])) (same_Some _ _ h)
whole_some (Some (x, b ∷ bs)) v h = cc

pub number_alone : (xs : List ℕ) (r : Option ℕ) → r ≡ whole (number_at (2 ^ 64 - 1) xs) → IfSome r (λ n. xs ≡ decimal n)
number_alone xs None e = tt
number_alone xs (Some v) e = (number_takes (2 ^ 64 - 1) xs v [] (omega arith) (whole_some _ v (sym e))).text ∙ append-nil (decimal v)

pub number_only : (xs : List ℕ) (v : ℕ) → v < 2 ^ 64 → xs ≡ decimal v → number_at (2 ^ 64 - 1) xs ≡ Some (v, [])
number_only xs v fits e = ap (number_at (2 ^ 64 - 1)) (e ∙ sym (append-nil (decimal v))) ∙ number_again (2 ^ 64 - 1) v [] (omega arith) (omega arith) refl

pub signed_alone : (xs : List ℕ) (r : Option ℤ) → r ≡ whole (signed_at xs) → IfSome r (λ n. xs ≡ signed_decimal n)
signed_alone xs None e = tt
signed_alone xs (Some v) e = (signed_takes xs v [] (whole_some _ v (sym e))).text ∙ append-nil (signed_decimal v)

pub signed_only : (xs : List ℕ) (v : ℤ) → FitsSigned w64 v → xs ≡ signed_decimal v → signed_at xs ≡ Some (v, [])
signed_only xs v fits e = ap signed_at (e ∙ sym (append-nil (signed_decimal v))) ∙ signed_again v [] fits refl
