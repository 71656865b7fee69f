-- What is asked of a run: the words, and the formula that they give.
use Rattle.std.specs.Prelude.{◌≡◌, ℕ, true, false, List, None, Some}
use Rattle.pota_base.specs.declared.fault.Refused.{Refused}
use Rattle.pota_base.specs.declared.fault.Refused.TheVariants as refused
use Rattle.rctl_grammar.specs.declared.tree.Tree.{Tree}
use Rattle.rctl_class.specs.Faults.{first_fault}
use Rattle.rctl_class.specs.Nodes.{node_of}
use Rattle.command_words.specs.declared.request.Task.{Task}
use Rattle.command_words.specs.Request.{Wanted, request_of}
use Rattle.stated_formula.specs.Stating.{IsShortText, IsStated, IsFormulaFault}
use Rattle.call_request.specs.declared.question.Question.{Question}
use Rattle.call_request.specs.declared.question.QuestionFault.{QuestionFault}
use Rattle.call_request.specs.declared.question.QuestionFault.TheVariants as fault

-- the words ask this
pub record IsQuestion (words : List (List ℕ)) (q : Question) : Type 0 where
  pub wanted : Wanted
  pub asks : request_of words ≡ Some wanted
  pub task : q.task ≡ wanted.task
  pub workers : q.workers ≡ wanted.workers
  pub stated : IsStated wanted.formula q.stated

-- the words are refused, or their formula has this fault
abbrev pub IsQuestionFault : List (List ℕ) → QuestionFault → Type 0
IsQuestionFault words fault.Usage = request_of words ≡ None
IsQuestionFault words (fault.Formula f) =
    (wanted : Wanted) × (request_of words ≡ Some wanted) × IsFormulaFault wanted.formula f

-- unless memory ran out, the fault is so
abbrev pub AreFaults : Refused QuestionFault → (QuestionFault → Type 0) → Type 0
AreFaults (refused.Fault f) Is = Is f
AreFaults refused.NoMemory Is = Unit {0}

-- the words ask this task of a formula of the class with this tree
pub record AsksFor (words : List (List ℕ)) (task : Task) (t : Tree) : Type 0 where
  pub wanted : Wanted
  pub asks : request_of words ≡ Some wanted
  pub task_is : wanted.task ≡ task
  pub is_read : IsShortText wanted.formula t
  pub free : first_fault false true (node_of t) ≡ None
