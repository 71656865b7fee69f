-- The watches that the program hands in give one truth value per state, which the trait asks of
-- each.
use Rattle.std.specs.Prelude.{◌≡◌, ℕ, ℤ, Bool, List, [], ◌∷◌, Option, Some, length, refl}
use Rattle.std.proofs.Common.{arith}
use Rattle.watch.specs.Answering.{stable_from, kept, owing_from, owing_after, calm_from}
use Rattle.watch.specs.Answering.{agreeing_after, first_variable}

pub length-stable_from : (before : Option (List ℤ)) (states : List (List ℤ))
    → length (stable_from before states) ≡ length states
length-stable_from before [] = refl
length-stable_from before (state ∷ rest) =
    grind (arith, length-stable_from (Some (kept state)) rest)

pub length-owing_from : (owing : Bool) (states : List (List ℤ))
    → length (owing_from owing states) ≡ length states
length-owing_from owing [] = refl
length-owing_from owing (state ∷ rest) =
    grind (arith, length-owing_from (owing_after owing state) rest)

pub length-calm_from : (agreeing : ℕ) (first : ℤ) (states : List (List ℤ))
    → length (calm_from agreeing first states) ≡ length states
length-calm_from agreeing first [] = refl
length-calm_from agreeing first (state ∷ rest) =
    grind (
      arith,
      length-calm_from (agreeing_after agreeing first state) (first_variable state)
          rest,
    )
