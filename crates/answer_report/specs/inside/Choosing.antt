-- Which parts of a formula get a witness, by the truth of each at the initial cut.
use Rattle.std.specs.Prelude.{ℕ, ◌+◌, Bool, true, false, not, ◌&&◌, ◌==◌, if◌then◌else◌, List, []}
use Rattle.std.specs.Prelude.{◌∷◌}
use Rattle.std.specs.List.{filter}
use Rattle.conjunctions.specs.declared.answer.PartAnswer.{PartAnswer}

-- the parts of the disjunct of a number
abbrev pub of_disjunct : ℕ → List PartAnswer → List PartAnswer
of_disjunct n parts = filter (λ (p : PartAnswer). p.disjunct == n) parts

-- the first number, from n on, that is no false part's
abbrev pub first_true : ℕ → List PartAnswer → ℕ
first_true n [] = n
first_true n (p ∷ parts) =
    first_true (if not p.truth && (p.disjunct == n) then n + 1 else n) parts

-- the first false part of each disjunct, but not of disjunct n where the parts begin within it
abbrev pub first_false : ℕ → List PartAnswer → List PartAnswer
first_false n [] = []
first_false n (p ∷ parts) =
    if not p.truth && not (p.disjunct == n) then p ∷ first_false p.disjunct parts
    else first_false n parts

-- the parts whose witnesses go with a verdict
abbrev pub chosen : Bool → List PartAnswer → List PartAnswer
chosen true parts = of_disjunct (first_true 1 parts) parts
chosen false parts = first_false 0 parts
