-- Closedness under lists of pulls, and the least number that passes a test.
use Rattle.std.proofs.Common.{◌≡◌, ◌↔◌, ℕ, zero, suc, ◌+◌, ◌<◌, ◌≤◌, ◌⊎◌, inl, inr, Bool, true, false, List, ◌++◌, length, refl, arith, sym, ap, ◌∙◌, length-append, subst}
use Rattle.std.specs.Prelude.{nat_lt, if◌then◌else◌}
use Rattle.std.proofs.lemmas.Bool.Decides.{leb_tells}
use Rattle.std.proofs.lemmas.List.{get_or-append-add}
use Rattle.std.proofs.lemmas.List.Elements.{All-get_or, All-from_get_or, All-append}
use Rattle.std.proofs.Math.ListN.{get_or-append}
use Rattle.pull_system.specs.declared.pull.Pull.{Pull}
use Rattle.pull_system.specs.System.{SystemView, IsClosed, no_pull}
use Rattle.pull_system.specs.Pulls.{HoldsAt, ClosedUnder, first_below}

-- a vector is closed in a system where it is closed under the system's pulls
pub closed_under : (system : SystemView) (v : List ℕ) → IsClosed system v ↔ ClosedUnder system.pulls v
closed_under system v = (
  λ closed. All-from_get_or (HoldsAt v) system.pulls no_pull closed.each,
  λ all. record { each = λ k there. All-get_or (HoldsAt v) system.pulls k no_pull there all },
)

pub closed_left : (ps qs : List Pull) (v : List ℕ) → ClosedUnder (ps ++ qs) v → ClosedUnder ps v
closed_left ps qs v all =
    All-from_get_or (HoldsAt v) ps no_pull (λ k there.
    let P : Pull → Type 0 = HoldsAt v in
    subst P (get_or-append ps qs no_pull k there) (All-get_or (HoldsAt v) (ps ++ qs) k no_pull (omega (arith, length-append ps qs)) all))

pub closed_right : (ps qs : List Pull) (v : List ℕ) → ClosedUnder (ps ++ qs) v → ClosedUnder qs v
closed_right ps qs v all =
    All-from_get_or (HoldsAt v) qs no_pull (λ k there.
    let P : Pull → Type 0 = HoldsAt v in
    subst P (get_or-append-add ps qs k no_pull) (All-get_or (HoldsAt v) (ps ++ qs) (length ps + k) no_pull (omega (arith, length-append ps qs)) all))

pub closed_both : (ps qs : List Pull) (v : List ℕ) → ClosedUnder ps v → ClosedUnder qs v → ClosedUnder (ps ++ qs) v
closed_both ps qs v left right = All-append (HoldsAt v) ps qs left right

-- one number more: the least was there before, or it is this one, or there is still none
pub data FirstCase (test : ℕ → Bool) (n : ℕ) : Type 0 where
  Before : first_below test n < n → first_below test (suc n) ≡ first_below test n → FirstCase test n
  Here : n ≤ first_below test n → test n ≡ true → first_below test (suc n) ≡ n → FirstCase test n
  Later : n ≤ first_below test n → test n ≡ false → first_below test (suc n) ≡ suc n → FirstCase test n

if_test : (b : Bool) (x y : ℕ) → ((b ≡ true) × ((if b then x else y) ≡ x)) ⊎ ((b ≡ false) × ((if b then x else y) ≡ y))
if_test true x y = inl (refl, refl)
if_test false x y = inr (refl, refl)

open_first : (test : ℕ → Bool) (n : ℕ) → first_below test (suc n) ≡ (if nat_lt (first_below test n) n then first_below test n else (if test n then n else suc n))
unfolding first_below
open_first test n = refl

first_none : (test : ℕ → Bool) → first_below test 0 ≡ 0
unfolding first_below
first_none test = refl

first_case : (test : ℕ → Bool) (n : ℕ) → FirstCase test n
first_case test n =
    let choose : Bool → ℕ = λ b. if b then first_below test n else (if test n then n else suc n) in
    elim (leb_tells (suc (first_below test n)) n) [
      | inl h ↦ Before (omega (arith, h.1)) (open_first test n ∙ ap choose h.0)
      | inr h ↦
          elim (if_test (test n) n (suc n)) [
            | inl t ↦ Here (omega (arith, h.1)) t.0 (open_first test n ∙ ap choose h.0 ∙ t.1)
            | inr f ↦ Later (omega (arith, h.1)) f.0 (open_first test n ∙ ap choose h.0 ∙ f.1)
          ]
    ]

last : (k n : ℕ) → k < suc n → (k < n) ⊎ (k ≡ n)
last k n h = grind arith

pub first_within : (test : ℕ → Bool) (n : ℕ) → first_below test n ≤ n
first_within test zero = omega (arith, first_none test)
first_within test (suc n) =
    elim (first_case test n) [
      | Before less same ↦ omega arith
      | Here none passes same ↦ omega arith
      | Later none fails same ↦ omega arith
    ]

pub first_passes : (test : ℕ → Bool) (n : ℕ) → first_below test n < n → test (first_below test n) ≡ true
first_passes test zero less = absurd (omega (arith, first_none test))
first_passes test (suc n) less =
    elim (first_case test n) [
      | Before before same ↦ ap test same ∙ first_passes test n before
      | Here none passes same ↦ ap test same ∙ passes
      | Later none fails same ↦ absurd (omega arith)
    ]

-- no number below it passes
pub first_least : (test : ℕ → Bool) (n k : ℕ) → k < n → test k ≡ true → first_below test n ≤ k
first_least test zero k below passes = absurd (omega arith)
first_least test (suc n) k below passes =
    elim (first_case test n) [
      | Before before same ↦
          elim (last k n below) [
            | inl less ↦ omega (arith, same, first_least test n k less passes)
            | inr here ↦ omega (arith, same, before, here)
          ]
      | Here none here same ↦
          elim (last k n below) [
            | inl less ↦ omega (arith, same, none, first_least test n k less passes)
            | inr is ↦ omega (arith, same, is)
          ]
      | Later none fails same ↦
          elim (last k n below) [
            | inl less ↦ absurd (omega (arith, none, first_least test n k less passes))
            | inr is ↦ let e : true ≡ false = sym passes ∙ ap test is ∙ fails in absurd (cc)
          ]
    ]

lt_or_le : (i n : ℕ) → (i < n) ⊎ (n ≤ i)
lt_or_le i n = grind arith

-- more numbers, of which the earlier ones pass only where they did before
pub first_grows : (test after : ℕ → Bool) (n m : ℕ) → n ≤ m → ((k : ℕ) → k < n → after k ≡ true → test k ≡ true) → first_below test n ≤ first_below after m
first_grows test after n m more only =
    elim (lt_or_le (first_below after m) n) [
      | inl less ↦ first_least test n (first_below after m) less (only (first_below after m) less (first_passes after m (omega arith)))
      | inr past ↦ omega (arith, first_within test n)
    ]
