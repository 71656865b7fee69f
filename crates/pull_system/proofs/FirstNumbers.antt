-- The least number that passes a test, from what is known of one number.
use Rattle.std.proofs.Common.{◌≡◌, ◌↔◌, ℕ, ◌<◌, ◌≤◌, Bool, true, false, inl, inr, sym, ◌∙◌, arith}
use Rattle.std.proofs.lemmas.Bool.{cases_lt, false≢true, false_from_ne_true}
use Rattle.pull_system.specs.Pulls.{first_below}
use Rattle.pull_system.proofs.PullLists.{first_within, first_passes, first_least}

-- no number before it passes
pub first_before : (test : ℕ → Bool) (n y : ℕ) → y < first_below test n → test y ≡ false
first_before test n y before =
    false_from_ne_true (test y) (λ passes. omega (arith, first_within test n, first_least test n y (omega (arith, first_within test n)) passes))

-- a number that passes, before which none does
pub first_is : (test : ℕ → Bool) (n r : ℕ) → r < n → test r ≡ true → ((y : ℕ) → y < r → test y ≡ false) → first_below test n ≡ r
first_is test n r below passes none =
    elim (cases_lt (first_below test n) r) [
      | inl less ↦ absurd (false≢true (sym (none (first_below test n) less) ∙ first_passes test n (omega arith)))
      | inr more ↦ omega (arith, first_least test n r below passes)
    ]

-- no number below the bound passes
pub first_none : (test : ℕ → Bool) (n : ℕ) → ((y : ℕ) → y < n → test y ≡ false) → first_below test n ≡ n
first_none test n none =
    elim (cases_lt (first_below test n) n) [
      | inl less ↦ absurd (false≢true (sym (none (first_below test n) less) ∙ first_passes test n less))
      | inr more ↦ omega (arith, first_within test n)
    ]

-- where each number behind one that passes does too, a number passes where it is at or behind the first
pub first_reaches : (test : ℕ → Bool) (n y : ℕ) → y < n → ((a b : ℕ) → a ≤ b → b < n → test a ≡ true → test b ≡ true) → (first_below test n ≤ y) ↔ (test y ≡ true)
first_reaches test n y below stays = (
  λ reached. stays (first_below test n) y reached below (first_passes test n (omega arith)),
  λ passes. first_least test n y below passes,
)
