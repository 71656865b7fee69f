-- Which parts hold nowhere.
use Rattle.std.specs.Prelude.{◌≡◌, ℕ, ⊤, Bool, true, false, List, [], ◌∷◌, ◌++◌, map}
use Rattle.question_meaning.specs.Question.{Holds, Never, Can}
use Rattle.rctl_parts.specs.Pieces.{Piece, atom, temporal, listed}
use Rattle.rctl_parts.specs.Spelled.{atom_formula}
use Rattle.part_pulls.specs.declared.observed.Observed.{Observed}
use Rattle.part_pulls.specs.Observing.{Reading, AreAnswers, run_seen, names_seen}
use Rattle.question_outcome.specs.Outcomes.{AreNowhere, placed, placed_parts}
use Rattle.question_outcome.specs.declared.outcome.PartPlace.{PartPlace}

-- the parts under the one operator of a disjunct
abbrev pub operand_of : List Piece → List Piece
operand_of [] = []
operand_of (atom a ∷ ps) = []
operand_of (temporal operator operand ∷ []) = listed operand
operand_of (temporal operator operand ∷ p ∷ ps) = []

-- whether the one part, which has no operator, holds nowhere; of another nothing is told
abbrev pub TellsNowhere : Observed → List Piece → Bool → Type 0
TellsNowhere seen (atom a ∷ []) true =
    (reading : Reading) → AreAnswers seen reading
    → Holds (run_seen seen reading) (Never (atom_formula (names_seen seen reading) a))
TellsNowhere seen (atom a ∷ []) false =
    (reading : Reading) → AreAnswers seen reading
    → Holds (run_seen seen reading) (Can (atom_formula (names_seen seen reading) a))
TellsNowhere seen (temporal operator operand ∷ []) true = ⊥
TellsNowhere seen (temporal operator operand ∷ []) false = ⊤
TellsNowhere seen [] nowhere = ⊤
TellsNowhere seen (p ∷ q ∷ ps) nowhere = ⊤

-- the places of those of these parts that hold nowhere stand behind those that were there
pub record AddsNowhere (seen : Observed) (n k : ℕ) (ps : List Piece) (old new : List PartPlace)
    : Type 0 where
  pub added : List PartPlace
  pub is : new ≡ old ++ added
  pub nowhere : (reading : Reading) → AreAnswers seen reading
      → AreNowhere (run_seen seen reading) (placed_parts (names_seen seen reading) n k ps) added

-- the places are those of the parts under the operators of these disjuncts that hold nowhere
abbrev pub AreNowhereIn : Observed → List (List Piece) → List PartPlace → Type 0
AreNowhereIn seen ds places =
    (reading : Reading) → AreAnswers seen reading
    → AreNowhere (run_seen seen reading)
    (placed (names_seen seen reading) 1 (map operand_of ds)) places
