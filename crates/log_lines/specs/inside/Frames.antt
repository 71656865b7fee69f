-- The text of a clock before and behind one of its counts.
use Rattle.std.specs.Prelude.{◌≡◌, ℕ, ◌^◌, ◌<◌, List, [], ◌∷◌, ◌++◌, length, set, get_or}
use Rattle.std.specs.Fmt.{decimal}
use Rattle.log_lines.specs.Spelling.{clock_text}

-- `NAT,NAT,..,`
abbrev pub clock_front : List ℕ → List ℕ
clock_front [] = []
clock_front (n ∷ ns) = decimal n ++ 44 ∷ clock_front ns

-- The clock has a count at the place, and whatever number stands there, its text is that number
-- between these two texts.
pub record FrameFits (place : ℕ) (counts before behind : List ℕ) : Type 0 where
  pub there : place < length counts
  pub small : (k : ℕ) → k < length counts → get_or counts k 0 < 2 ^ 32
  pub text : (n : ℕ) → clock_text (set counts place n) ≡ before ++ (decimal n ++ behind)
