-- What is observed for a list of questions, behind more batches and at an answer.
use Rattle.std.proofs.Common.{◌≡◌, List, sym, ap, subst, ◌∙◌}
use Rattle.run_model.specs.Run.{Name}
use Rattle.event_log.specs.declared.log.Event.{Event}
use Rattle.event_log.specs.declared.log.Header.{Header}
use Rattle.trace_growth.specs.Growing.{IsTrace}
use Rattle.part_pulls.specs.Observing.{AreAnswers, Reading}
use Rattle.conjunctions.specs.Answering.{IsAnswer}
use Rattle.conjunctions.specs.declared.answer.Answer.{Answer}
use Rattle.observation.specs.Growing.{GrowingView, TakesBatch}
use Rattle.rctl_names.specs.Resolving.{IsResolved}
use Rattle.rctl_parts.specs.Pieces.{Piece, disjuncts_of}
use Rattle.asked_list.specs.Lists.{disjuncts_in}
use Rattle.asked_list.specs.declared.list.AskedList.{AskedList}
use Rattle.asked_answers.specs.Holding.{AnswersList}
use Rattle.asked_observation.specs.Observed.{IsObservedList}

pub stays : (list : AskedList) (names : List Name) (before after : GrowingView) (batch : List Event) → TakesBatch before after batch → IsObservedList list names before → IsObservedList list names after
stays list names before after batch takes is = record {
  resolved = is.resolved;
  known = subst (λ (h : Header). IsResolved h names (disjuncts_in list) is.resolved) (sym takes.later.header) is.known;
  asked = ap disjuncts_of takes.disjuncts ∙ is.asked;
}

pub answers : (list : AskedList) (names : List Name) (growing : GrowingView) → IsObservedList list names growing → (answer : Answer) → IsAnswer growing.seen (disjuncts_of growing.disjuncts) answer
    → IsTrace growing.seen.trace.states → (reading : Reading) → AreAnswers growing.seen reading → reading.watch_names ≡ names → AnswersList list growing.seen reading answer
answers list names growing is answer answered trace reading told same = record {
  resolved = is.resolved;
  names = subst (λ (ns : List Name). IsResolved growing.seen.trace.states.header ns (disjuncts_in list) is.resolved) (sym same) is.known;
  trace = trace;
  answers = told;
  answered = subst (λ (ds : List (List Piece)). IsAnswer growing.seen ds answer) is.asked answered;
}
