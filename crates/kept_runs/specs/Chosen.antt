-- What a list keeps of its elements by their numbers, and the numbers that these get.
use Rattle.std.specs.Prelude.{ℕ, zero, suc, Bool, List, [], ◌∷◌, if◌then◌else◌}

-- the elements whose numbers pass, in their order; the first has number 0
unfoldable pub chosen : {A : Type 0} → (ℕ → Bool) → List A → List A
chosen test [] = []
chosen test (x ∷ xs) =
    if test 0 then x ∷ chosen (λ n. test (suc n)) xs else chosen (λ n. test (suc n)) xs

-- how many of the numbers below this one pass: the number that its element gets
unfoldable pub new_number : (ℕ → Bool) → ℕ → ℕ
new_number test zero = 0
new_number test (suc n) = if test n then suc (new_number test n) else new_number test n
