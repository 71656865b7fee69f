use Rattle.std.specs.Prelude.{ℕ, Bool, false, ◌&&◌, ◌||◌, ◌==◌, nat_le, nat_lt, List, [], ◌∷◌}
use Rattle.std.specs.Prelude.{length}
use Rattle.std.specs.List.{list_all}
use Rattle.pota_base.specs.Limits.{longest_name}

-- the codes of A to Z, a to z and `_`
abbrev pub is_name_start : ℕ → Bool
is_name_start b = (nat_le 65 b && nat_le b 90) || (nat_le 97 b && nat_le b 122) || b == 95

-- those, or the code of a digit
abbrev pub is_name_byte : ℕ → Bool
is_name_byte b = is_name_start b || (nat_le 48 b && nat_le b 57)

-- a letter or `_`, then letters, digits or `_`: 1 to 64 bytes in all
abbrev pub is_name : List ℕ → Bool
is_name [] = false
is_name (b ∷ rest) =
    is_name_start b && (nat_lt (length rest) longest_name && list_all is_name_byte rest)
