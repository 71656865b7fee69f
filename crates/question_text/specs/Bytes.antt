-- The bytes of a question's text.
use Rattle.std.specs.Prelude.{ℕ, zero, suc, ◌+◌, Bool, ◌&&◌, ◌||◌, ◌==◌, not, nat_le, List, []}
use Rattle.std.specs.Prelude.{◌∷◌, if◌then◌else◌}

-- a space or a tab
abbrev pub is_blank : ℕ → Bool
is_blank b = b == 32 || b == 9

-- any byte but a colon
abbrev pub is_no_colon : ℕ → Bool
is_no_colon b = not (b == 58)

-- a byte that a question's name may have: any but control bytes, `#` and `\`, which say something
-- of their own in the lines of an answer
abbrev pub is_title_byte : ℕ → Bool
is_title_byte b = nat_le 32 b && (not (b == 127) && (not (b == 35) && not (b == 92)))

-- how many bytes at the front pass the test
abbrev pub run_of : (ℕ → Bool) → List ℕ → ℕ
run_of passes [] = 0
run_of passes (b ∷ bs) = if passes b then run_of passes bs + 1 else 0

-- one byte further on, where the bytes behind it end so; at a blank before blanks alone, 0
abbrev pub end_behind : ℕ → ℕ → ℕ
end_behind first zero = if is_blank first then 0 else 1
end_behind first (suc end) = suc (suc end)

-- where the last byte ends that is no blank, 0 where each is one
abbrev pub end_of_words : List ℕ → ℕ
end_of_words [] = 0
end_of_words (b ∷ bs) = end_behind b (end_of_words bs)
