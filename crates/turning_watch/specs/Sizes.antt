-- A watch that turns its answer gives one truth value per state, which the trait asks.
use Rattle.std.specs.Prelude.{◌≡◌, ℤ, Bool, not, List, [], ◌∷◌, length, refl}
use Rattle.std.proofs.Common.{arith}
use Rattle.turning_watch.specs.Turning.{turning_from}

pub length-turning_from : (answer : Bool) (states : List (List ℤ))
    → length (turning_from answer states) ≡ length states
length-turning_from answer [] = refl
length-turning_from answer (state ∷ rest) = grind (arith, length-turning_from (not answer) rest)
