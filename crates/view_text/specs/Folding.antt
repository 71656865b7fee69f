-- Lines of at most 100 columns.
use Rattle.std.specs.Prelude.{ℕ, ◌+◌, ◌≤◌, Bool, ◌&&◌, ◌||◌, ◌==◌, nat_lt, nat_le, List, [], ◌∷◌}
use Rattle.std.specs.Prelude.{◌++◌, replicate, MatchBool, if◌then◌else◌}
use Rattle.std.specs.List.{position_or_len}

-- whether a word ends before the byte: a space or a line feed
abbrev pub ends_word : ℕ → Bool
ends_word b = b == 32 || b == 10

-- how many bytes stand before the next such byte
abbrev pub word_len : List ℕ → ℕ
word_len bytes = position_or_len ends_word bytes

-- what a broken line goes on with: a line feed and 8 spaces
abbrev pub broken : List ℕ
broken = 10 ∷ replicate 8 32

-- whether a line is broken at this byte, behind so many columns: a space whose next word would end
-- beyond column 100. The break takes the place of the space
unfoldable pub breaks_at : ℕ → ℕ → List ℕ → Bool
breaks_at column b rest = b == 32 && nat_lt 100 (column + 1 + word_len rest)

-- The text behind so many columns of a line. Where none of a word fits, the line is broken within
-- the word.
unfoldable pub folded : ℕ → List ℕ → List ℕ
folded column [] = []
folded column (b ∷ bs) =
    if b == 10 then 10 ∷ folded 0 bs
    else if breaks_at column b bs then broken ++ folded 8 bs
    else if nat_le 100 column then broken ++ b ∷ folded 9 bs
    else b ∷ folded (column + 1) bs

-- no line of the text, behind so many columns of its first one, has more than 100
unfoldable pub AreShort : ℕ → List ℕ → Type 0
AreShort column [] = column ≤ 100
AreShort column (b ∷ bs) =
    MatchBool (b == 10) ((column ≤ 100) × AreShort 0 bs) (AreShort (column + 1) bs)
