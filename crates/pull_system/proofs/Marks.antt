-- Marks that are set, and their number.
use Rattle.std.proofs.Common.{◌≡◌, ℕ, zero, suc, ◌+◌, Bool, true, false, List, [], ◌∷◌, ◌<◌, ◌≤◌, length, set, get_or, refl, arith}
use Rattle.std.specs.Prelude.{if◌then◌else◌}
use Rattle.std.proofs.lemmas.List.Sums.{sum_by-cons, sum_by-set}
use Rattle.pull_system.specs.Marks.{marked}

pub unmarked : (marks : List Bool) → marked marks ≡ 0 → (i : ℕ) → get_or marks i false ≡ false
unmarked [] none i = refl
unmarked (true ∷ marks) none i = absurd (omega (arith, sum_by-cons (λ (b : Bool). if b then 1 else 0) true marks))
unmarked (false ∷ marks) none zero = refl
unmarked (false ∷ marks) none (suc i) = unmarked marks (omega (arith, sum_by-cons (λ (b : Bool). if b then 1 else 0) false marks)) i

pub mark_more : (marks : List Bool) (i : ℕ) → i < length marks → marked (set marks i true) ≤ marked marks + 1
mark_more marks i there = omega (arith, sum_by-set (λ (b : Bool). if b then 1 else 0) marks i true false there)
