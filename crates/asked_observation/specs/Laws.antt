-- What the laws of this crate say.
use Rattle.asked_answers.specs.Holding.{AnswersList}
use Rattle.asked_list.specs.declared.list.AskedList.{AskedList as ListIs}
use Rattle.asked_observation.specs.Observed.{IsObservedList}
use Rattle.conjunctions.specs.Answering.{IsAnswer}
use Rattle.conjunctions.specs.declared.answer.Answer.{Answer}
use Rattle.observation.specs.Growing.{GrowingView}
use Rattle.part_pulls.specs.Observing.{AreAnswers, Reading}
use Rattle.rctl_parts.specs.Pieces.{disjuncts_of}
use Rattle.run_model.specs.Run.{Name}
use Rattle.std.specs.Prelude.{◌≡◌, List}
use Rattle.trace_growth.specs.Growing.{IsTrace}

-- an answer on the observation of a list is one of the list
abbrev pub AnswersAreTheLists : Type 0
AnswersAreTheLists = (list : ListIs) (names : List Name) (growing : GrowingView)
    → IsObservedList list names growing → (answer : Answer)
    → IsAnswer growing.seen (disjuncts_of growing.disjuncts) answer
    → IsTrace growing.seen.trace.states
    → (reading : Reading) → AreAnswers growing.seen reading → reading.watch_names ≡ names
    → AnswersList list growing.seen reading answer
