-- Sums of vectors that are within one another.
use Rattle.std.proofs.Common.{◌≡◌, ℕ, zero, suc, ◌+◌, ◌<◌, ◌≤◌, List, [], ◌∷◌, length, get_or, set, sum, arith}
use Rattle.std.proofs.lemmas.List.Sums.{sum_by-cons, sum_by-set}
use Rattle.pull_system.specs.Vector.{IsVector}

-- a sum, when one component is put in the place of another
pub sum-set : (v : List ℕ) (i y : ℕ) → i < length v → sum (set v i y) + get_or v i 0 ≡ sum v + y
sum-set v i y there = sum_by-set (λ (n : ℕ). n) v i y 0 there

pub sum-within : (v w : List ℕ) → length v ≡ length w → ((i : ℕ) → get_or v i 0 ≤ get_or w i 0) → sum v ≤ sum w
sum-within [] [] size within = omega arith
sum-within [] (y ∷ w) size within = absurd (omega arith)
sum-within (x ∷ v) [] size within = absurd (omega arith)
sum-within (x ∷ v) (y ∷ w) size within =
    omega (arith, sum_by-cons (λ (n : ℕ). n) x v, sum_by-cons (λ (n : ℕ). n) y w, within 0, sum-within v w (omega arith) (λ i. within (suc i)))

-- no vector sums to more than the lengths, each taken one further
pub sum-vector : (lens v : List ℕ) → length v ≡ length lens → ((i : ℕ) → get_or v i 0 ≤ get_or lens i 0 + 1) → sum v ≤ sum lens + length lens
sum-vector [] [] size within = omega arith
sum-vector (y ∷ lens) [] size within = absurd (omega arith)
sum-vector [] (x ∷ v) size within = absurd (omega arith)
sum-vector (y ∷ lens) (x ∷ v) size within =
    omega (arith, sum_by-cons (λ (n : ℕ). n) x v, sum_by-cons (λ (n : ℕ). n) y lens, within 0, sum-vector lens v (omega arith) (λ i. within (suc i)))

pub sum-is_vector : (lens v : List ℕ) → IsVector lens v → sum v ≤ sum lens + length lens
sum-is_vector lens v is = sum-vector lens v is.size is.within

-- a component is at most the sum
pub component_le : (v : List ℕ) (i : ℕ) → get_or v i 0 ≤ sum v
component_le [] i = omega arith
component_le (x ∷ v) zero = omega (arith, sum_by-cons (λ (n : ℕ). n) x v)
component_le (x ∷ v) (suc i) = omega (arith, sum_by-cons (λ (n : ℕ). n) x v, component_le v i)
