-- Inside: the larger of two vectors, which a table keeps of what it has reached.
use Rattle.std.specs.Prelude.{ℕ, List, [], ◌∷◌, max}

-- the larger of both, number by number
abbrev pub larger : List ℕ → List ℕ → List ℕ
larger [] ys = ys
larger (x ∷ xs) [] = x ∷ xs
larger (x ∷ xs) (y ∷ ys) = max x y ∷ larger xs ys
