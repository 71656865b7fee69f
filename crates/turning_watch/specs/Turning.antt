-- A watch that turns its answer with each state.
use Rattle.std.specs.Prelude.{ℤ, Bool, not, List, [], ◌∷◌}

-- its answers from one answer on, whatever the states are
abbrev pub turning_from : Bool → List (List ℤ) → List Bool
turning_from answer [] = []
turning_from answer (state ∷ rest) = answer ∷ turning_from (not answer) rest
