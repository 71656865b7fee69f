-- Numbers by which most names are told apart.
use Rattle.std.specs.Prelude.{ℕ, ◌+◌, ◌*◌, List, [], ◌∷◌, take}

-- the number with these digits behind it, of base 256
abbrev pub with_digits : ℕ → List ℕ → ℕ
with_digits number [] = number
with_digits number (b ∷ rest) = with_digits (number * 256 + b) rest

-- the first eight bytes as one number
abbrev pub key_of : List ℕ → ℕ
key_of bytes = with_digits 0 (take 8 bytes)
