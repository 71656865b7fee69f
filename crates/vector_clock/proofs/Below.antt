-- Tests of the numbers below a bound, and clocks compared by them.
use Rattle.std.proofs.Common.{◌≡◌, ℕ, zero, suc, ◌+◌, ◌<◌, ◌≤◌, Bool, true, false, ◌||◌, [], ◌∷◌, length, get_or, refl, sym, ap, ◌∙◌, subst, arith, inl, inr}
use Rattle.std.specs.Prelude.{nat_lt}
use Rattle.std.proofs.lemmas.Bool.{cases_eq, cases_lt, or_parts, or_from, or_left, or_right, ltb-false, le-ltb}
use Rattle.run_model.specs.Cut.{Cut, count, IsWithin}
use Rattle.run_model.proofs.Counts.{count_past}
use Rattle.vector_clock.specs.Events.{some_below, is_beyond}

pub none_below : (test : ℕ → Bool) (n : ℕ) → some_below n test ≡ false → (j : ℕ) → j < n → test j ≡ false
unfolding some_below
none_below test zero h j lt = absurd (omega arith)
none_below test (suc n) h j lt =
    let parts = or_parts (some_below n test) (test n) h in
    elim (cases_eq j n) [
      | inl e ↦ subst (λ (k : ℕ). test k ≡ false) (sym e) parts.1
      | inr ne ↦ none_below test n parts.0 j (omega arith)
    ]

pub none_from : (test : ℕ → Bool) (n : ℕ) → ((j : ℕ) → j < n → test j ≡ false) → some_below n test ≡ false
unfolding some_below
none_from test zero h = refl
none_from test (suc n) h = or_from (some_below n test) (test n) (none_from test n (λ j lt. h j (omega arith))) (h n (omega arith))

pub some_from : (test : ℕ → Bool) (n j : ℕ) → j < n → test j ≡ true → some_below n test ≡ true
unfolding some_below
some_from test zero j lt h = absurd (omega arith)
some_from test (suc n) j lt h = elim (cases_eq j n) [
  | inl e ↦ or_right (some_below n test) (test n) (subst (λ (k : ℕ). test k ≡ true) e h)
  | inr ne ↦ or_left (some_below n test) (test n) (some_from test n j (omega arith) h)
]

pub same_below : (f g : ℕ → Bool) (n : ℕ) → ((j : ℕ) → j < n → f j ≡ g j) → some_below n f ≡ some_below n g
unfolding some_below
same_below f g zero h = refl
same_below f g (suc n) h = λ i. same_below f g n (λ j lt. h j (omega arith)) i || h n (omega arith) i

-- one number more that doesn't pass, and all of them
pub none_more : (test : ℕ → Bool) (n : ℕ) → some_below n test ≡ false → test n ≡ false → some_below (suc n) test ≡ false
unfolding some_below
none_more test n h k = or_from (some_below n test) (test n) h k

-- ---- clocks

pub within_from : (c v : Cut) → is_beyond c v ≡ false → IsWithin c v
within_from c v h j = elim (cases_lt j (length c)) [
  | inl lt ↦ ltb-false (count v j) (count c j) (none_below (λ (k : ℕ). nat_lt (count v k) (count c k)) (length c) h j lt)
  | inr ge ↦ omega (arith, count_past c j ge)
]

pub not_beyond : (c v : Cut) → IsWithin c v → is_beyond c v ≡ false
not_beyond c v h = none_from (λ (k : ℕ). nat_lt (count v k) (count c k)) (length c) (λ j lt. le-ltb (count v j) (count c j) (h j))

-- ---- in a loop

pub none_yet : (test : ℕ → Bool) → some_below 0 test ≡ false
unfolding some_below
none_yet test = refl

pub none_step : (test : ℕ → Bool) (n : ℕ) → some_below n test ≡ false → test n ≡ false → some_below (n + 1) test ≡ false
none_step test n h k =
    let one : n + 1 ≡ suc n = omega arith in
    subst (λ (m : ℕ). some_below m test ≡ false) (sym one) (none_more test n h k)

pub some_step : (test : ℕ → Bool) (n : ℕ) → test n ≡ true → some_below (n + 1) test ≡ true
some_step test n h = some_from test (n + 1) n (omega arith) h

some_suc : (test : ℕ → Bool) (n : ℕ) → some_below (suc n) test ≡ (some_below n test || test n)
unfolding some_below
some_suc test n = refl

or_none : (a b : Bool) → b ≡ false → (a || b) ≡ a
or_none true b h = refl
or_none false b h = h

pub same_step : (test : ℕ → Bool) (n : ℕ) → test n ≡ false → some_below (n + 1) test ≡ some_below n test
same_step test n h =
    let one : n + 1 ≡ suc n = omega arith in
    ap (λ (m : ℕ). some_below m test) one ∙ some_suc test n ∙ or_none (some_below n test) (test n) h

-- an item that is read by its place
pub count_is : (v : Cut) (i x : ℕ) → i < length v → x ≡ get_or v i x → count v i ≡ x
count_is [] i x lt is = absurd (omega arith)
count_is (y ∷ v) zero x lt is = sym is
count_is (y ∷ v) (suc i) x lt is = count_is v i x (omega arith) is
