-- What a session keeps of its answers.
use Rattle.std.specs.Prelude.{List, Option, None, Some}
use Rattle.slice_workers.specs.Views.{SettledView}
use Rattle.rctl_parts.specs.Pieces.{disjuncts_of}
use Rattle.conjunctions.specs.declared.answer.Answer.{Answer}
use Rattle.conjunctions.specs.declared.round.Kept.{Kept}
use Rattle.conjunctions.specs.Numbering.{all_conjunctions}
use Rattle.conjunctions.specs.Settling.{AreSettled}
use Rattle.conjunctions.specs.Answering.{IsAnswer}
use Rattle.observation.specs.Growing.{GrowingView, HasTaken}
use Rattle.answering.specs.Going.{GoesOn}

-- batches were taken, the answer is that of the formula on what was observed, and the rows are
-- those of its conjunctions
pub record IsAnswered (growing : GrowingView) (rows : List SettledView) (told : Answer) : Type 0
  where
    pub taken : HasTaken growing
    pub answer : IsAnswer growing.seen (disjuncts_of growing.disjuncts) told
    pub settled : AreSettled growing.seen (all_conjunctions (disjuncts_of growing.disjuncts)) rows

-- nothing is said where there is no answer
abbrev pub Stands : GrowingView → List SettledView → Option Answer → Type 0
Stands growing rows None = Unit {0}
Stands growing rows (Some answer) = IsAnswered growing rows answer

-- the next answer may begin from what is kept, and the answer that is there is that on what was
-- observed
pub record IsStanding (growing : GrowingView) (kept : Kept) (answer : Option Answer) : Type 0 where
  pub goes_on : GoesOn kept growing
  pub stands : Stands growing kept.settled answer
