-- What has to be so of a question for a report to answer it.
use Rattle.std.specs.Prelude.{◌≡◌, ℕ, true, List}
use Rattle.run_model.specs.Class.{disjuncts, IsKeptFor}
use Rattle.rctl_parts.specs.Pieces.{Piece}
use Rattle.rctl_parts.specs.Spelled.{part_formulas}
use Rattle.rctl_class.specs.Classed.{EachAlike}
use Rattle.part_pulls.specs.declared.observed.Observed.{Observed}
use Rattle.conjunctions.specs.declared.answer.Answer.{Answer}
use Rattle.part_pulls.specs.Observing.{Reading, AreAnswers, names_seen, run_seen}
use Rattle.conjunctions.specs.Answering.{IsAnswer}
use Rattle.run_report.specs.Reports.{Asked}
use Rattle.call_options.specs.declared.shown.Shown.{Shown}

-- the question is for this text and for what is shown, and the answer is that of parts which mean,
-- one by one, what the parts of the formula do, under the names and the watches of the reading. No
-- variable of the formula's differences falls in the run
pub record IsAskedOf (seen : Observed) (answer : Answer) (shown : Shown) (text : List ℕ)
    (reading : Reading) (q : Asked) : Type 0 where
  pub text_is : q.text ≡ text
  pub slice : q.slice ≡ shown.slice
  pub witness : q.witness ≡ shown.witness
  pub watches : AreAnswers seen reading
  pub pieces : List (List Piece)
  pub answered : IsAnswer seen pieces answer
  pub meaning : EachAlike (part_formulas (names_seen seen reading) pieces)
      (disjuncts true q.formula)
  pub kept : IsKeptFor (run_seen seen reading) q.formula
