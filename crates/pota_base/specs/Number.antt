-- Numbers at the front of some bytes: decimal digits, without a leading zero, with `-` before a
-- negative number.
use Rattle.std.specs.Prelude.{ℕ, ℤ, pos, negsuc, ◌+◌, ◌-◌, ◌*◌, ◌^◌, Bool, ◌&&◌, ◌==◌, nat_lt}
use Rattle.std.specs.Prelude.{nat_le, List, [], ◌∷◌, Option, None, Some, if◌then◌else◌}
use Rattle.std.specs.Borrow.{Bor}

infixl 10 ◌>>=◌
abbrev pub ◌>>=◌ : {A B : Type 0} → Option A → (A → Option B) → Option B
None >>= f = None
(Some x) >>= f = f x

abbrev pub is_digit : ℕ → Bool
is_digit b = nat_le 48 b && nat_le b 57

-- whether the digits so far are one 0
abbrev pub is_leading_zero : ℕ → ℕ → Bool
is_leading_zero value len = value == 0 && nat_lt 0 len

-- a number ends after its last digit, and has one
abbrev pub digits_end : ℕ → ℕ → List ℕ → Option (ℕ × List ℕ)
digits_end value len rest = if nat_lt 0 len then Some (value, rest) else None

-- the rest of a number of at most `most`, after `len` digits that gave `value`
unfoldable pub digits_from : ℕ → ℕ → ℕ → List ℕ → Option (ℕ × List ℕ)
digits_from most value len [] = digits_end value len []
digits_from most value len (b ∷ rest) = if is_digit b then
    (if is_leading_zero value len then None
    else if nat_le (value * 10 + (b - 48)) most
    then digits_from most (value * 10 + (b - 48)) (len + 1) rest
    else None)
    else digits_end value len (b ∷ rest)

-- a number of at most `most`, and the bytes after its last digit
abbrev pub number_at : ℕ → List ℕ → Option (ℕ × List ℕ)
number_at most bytes = digits_from most 0 0 bytes

-- the number after a `-`, which isn't 0
abbrev pub minus_at : List ℕ → Option (ℤ × List ℕ)
minus_at bytes =
    number_at (2 ^ 63) bytes >>= λ n. if n.0 == 0 then None else Some (negsuc (n.0 - 1), n.1)

abbrev pub plus_at : List ℕ → Option (ℤ × List ℕ)
plus_at bytes = number_at (2 ^ 63 - 1) bytes >>= λ n. Some (pos n.0, n.1)

-- a number of 64 bits with a sign
unfoldable pub signed_at : List ℕ → Option (ℤ × List ℕ)
signed_at [] = None
signed_at (b ∷ bs) = if b == 45 then minus_at bs else plus_at (b ∷ bs)

-- ---- what the code's readers gave

-- what was read, and the bytes behind the reference
abbrev pub seen : {A : Type 0} → Option (A × Bor (List ℕ)) → Option (A × List ℕ)
seen None = None
seen (Some x) = Some (x.0, x.1.now)

-- what was read, where nothing is left after it
abbrev pub whole : {A : Type 0} → Option (A × List ℕ) → Option A
whole None = None
whole (Some (x, [])) = Some x
whole (Some (x, b ∷ bs)) = None
