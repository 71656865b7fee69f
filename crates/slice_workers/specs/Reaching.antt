-- How many rows of a table are left to be settled.
use Rattle.std.specs.Prelude.{ℕ, ◌-◌, List, [], ◌∷◌}

-- how many rows of each process are not firm
abbrev pub rows_left : List ℕ → List ℕ → List ℕ
rows_left [] finals = []
rows_left (len ∷ lens) [] = len ∷ rows_left lens []
rows_left (len ∷ lens) (count ∷ finals) = (len - count) ∷ rows_left lens finals
