-- Texts that stand behind two spaces.
use Rattle.std.specs.Prelude.{ℕ, Bool, true, ◌==◌, List, [], ◌∷◌, ◌++◌, if◌then◌else◌}

-- what stands before a byte, by whether it begins a line
abbrev pub indent : Bool → List ℕ
indent begins = if begins then 32 ∷ 32 ∷ [] else []

-- the text with two spaces before each of its lines; whether its first byte begins one is said
unfoldable pub indented_from : Bool → List ℕ → List ℕ
indented_from begins [] = []
indented_from begins (b ∷ bs) = indent begins ++ b ∷ indented_from (b == 10) bs

abbrev pub indented : List ℕ → List ℕ
indented text = indented_from true text
