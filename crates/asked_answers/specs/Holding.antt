-- Which of the parts of an answer are those of a question.
use Rattle.std.specs.Prelude.{◌≡◌, ℕ, zero, suc, ◌+◌, ◌==◌, Bool, true, false, not, ◌||◌, ◌&&◌}
use Rattle.std.specs.Prelude.{List, [], ◌∷◌}
use Rattle.asked_list.specs.Lists.{HasRange, IsAskedIn, asked_each, disjuncts_in, range_of}
use Rattle.asked_list.specs.declared.list.AskedList.{AskedList}
use Rattle.asked_list.specs.declared.list.AskedRange.{AskedRange}
use Rattle.asked_parts.specs.Asked.{SpellAt}
use Rattle.conjunctions.specs.Answering.{IsAnswer}
use Rattle.conjunctions.specs.declared.answer.Answer.{Answer}
use Rattle.conjunctions.specs.declared.answer.PartAnswer.{PartAnswer}
use Rattle.part_pulls.specs.Observing.{AreAnswers, Reading, names_seen, run_seen}
use Rattle.part_pulls.specs.declared.observed.Observed.{Observed}
use Rattle.question_forms.specs.declared.question.Question.{Question}
use Rattle.question_meaning.specs.Asking.{AreFor, asked_formula}
use Rattle.rctl_class.specs.NamedParts as named
use Rattle.rctl_names.specs.Resolving.{IsResolved}
use Rattle.rctl_parts.specs.Pieces.{Piece, disjuncts_of}
use Rattle.rctl_parts.specs.Spelled.{part_formulas}
use Rattle.rctl_parts.specs.declared.part.Resolved.{Resolved}
use Rattle.run_model.specs.Formula.{Formula}
use Rattle.trace_growth.specs.Growing.{IsTrace}

-- no part of the disjunct of this number is false
abbrev pub all_true : ℕ → List PartAnswer → Bool
all_true disjunct [] = true
all_true disjunct (part ∷ parts) =
    (not (part.disjunct == disjunct) || part.truth) && all_true disjunct parts

-- that is so of one of so many disjuncts from a number on, which is from 0. Those of an answer are
-- numbered from 1
abbrev pub some_true : List PartAnswer → ℕ → ℕ → Bool
some_true parts from zero = false
some_true parts from (suc count) = all_true (from + 1) parts || some_true parts (from + 1) count

-- the disjuncts of a range, with numbers in the place of names
abbrev pub own_of : AskedRange → Resolved → List (List Piece)
own_of range resolved = range_of range.from range.to (disjuncts_of resolved.disjuncts)

-- the question has this range in the list
pub record IsListedAs (list : AskedList) (range : AskedRange) (q : Question) : Type 0 where
  pub form : range.form ≡ q.form
  pub has : HasRange range list.forms (disjuncts_in list) (named.disjuncts_of q.classed.disjuncts)

-- the answer is that of disjuncts of which the question asks those of its range, on what was
-- observed, and what these spell is the formula as the question's form asks it
pub record AnswersFormula (asked : AskedRange) (seen : Observed) (reading : Reading) (f : Formula)
    (answer : Answer) : Type 0 where
  pub disjuncts : List (List Piece)
  pub own : List (List Piece)
  pub trace : IsTrace seen.trace.states
  pub answers : AreAnswers seen reading
  pub answered : IsAnswer seen disjuncts answer
  pub in_range : IsAskedIn disjuncts asked own
  pub spelled : SpellAt (run_seen seen reading) (names_seen seen reading) own
      (asked_formula asked.form f)
  pub for : AreFor asked.form (part_formulas (names_seen seen reading) own)

-- the answer is that of what the list asks, on what was observed, with the names of its header and
-- of the watches
pub record AnswersList (list : AskedList) (seen : Observed) (reading : Reading) (answer : Answer)
    : Type 0 where
  pub resolved : Resolved
  pub names : IsResolved seen.trace.states.header reading.watch_names (disjuncts_in list) resolved
  pub trace : IsTrace seen.trace.states
  pub answers : AreAnswers seen reading
  pub answered : IsAnswer seen (asked_each list.forms (disjuncts_of resolved.disjuncts)) answer
