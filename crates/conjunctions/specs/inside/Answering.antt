-- Inside: the answers of parts, one behind the other.
use Rattle.std.specs.Prelude.{◌≡◌, List, ◌++◌}
use Rattle.part_pulls.specs.declared.observed.Observed.{Observed}
use Rattle.conjunctions.specs.declared.answer.PartAnswer.{PartAnswer}
use Rattle.conjunctions.specs.Answering.{ArePartAnswers, Place}

-- the answers of these parts stand behind those that were there
pub record AddsAnswers (seen : Observed) (old new : List PartAnswer) (places : List Place) : Type 0
  where
    pub added : List PartAnswer
    pub is : new ≡ old ++ added
    pub answers : ArePartAnswers seen places added
