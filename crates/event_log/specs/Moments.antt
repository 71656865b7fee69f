-- Looking back over the bytes of a text. Each byte is a moment; the bytes so far, the newest first,
-- are its past.
use Rattle.std.specs.Prelude.{◌≡◌, ℕ, false, ◌==◌, List, [], ◌∷◌, ◌++◌, if◌then◌else◌}
use Rattle.std.specs.List.{AllByRecursion}
use Rattle.event_log.specs.Before.{Line}

abbrev pub IsPlainByte : ℕ → Type 0
IsPlainByte b = (b == 10) ≡ false

-- no byte is a line feed
abbrev pub HasNoFeed : List ℕ → Type 0
HasNoFeed bytes = AllByRecursion IsPlainByte bytes

-- the bytes since the last line feed
unfoldable pub line_now : List ℕ → Line
line_now [] = []
line_now (b ∷ past) = if b == 10 then [] else line_now past ++ b ∷ []

-- the whole lines, the newest first
unfoldable pub lines : List ℕ → List Line
lines [] = []
lines (b ∷ past) = if b == 10 then line_now past ∷ lines past else lines past
