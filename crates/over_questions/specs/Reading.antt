-- What the reading of a question over processes gives.
use Rattle.std.specs.Prelude.{◌≡◌, ℕ, List, [], None, Some}
use Rattle.pota_base.specs.declared.fault.Refused.{Refused}
use Rattle.pota_base.specs.declared.fault.Refused.TheVariants as refused
use Rattle.question_text.specs.declared.head.Head.{Head}
use Rattle.question_forms.specs.Questions.{IsQuestion, IsQuestionFault}
use Rattle.question_forms.specs.declared.question.Question.{Question}
use Rattle.question_instances.specs.Instances.{instance_text}
use Rattle.question_instances.specs.declared.over.Over.{Over}
use Rattle.rctl_class.specs.NamedParts.{disjuncts_of}
use Rattle.rctl_grammar.specs.declared.tree.Tree.{Tree}
use Rattle.over_questions.specs.Barred.{barred_disjuncts}
use Rattle.over_questions.specs.declared.reading.OverQuestionFault.{OverQuestionFault}
use Rattle.over_questions.specs.declared.reading.OverQuestionFault.TheVariants as fault

-- the text without the words that name what stands for processes: these names are in it as they are
abbrev pub plain_text : List ℕ → Over → List ℕ
plain_text text over = instance_text text over []

-- the text is this question
abbrev pub IsReadAs : List ℕ → Question → Type 0
IsReadAs text q = (head : Head) × (t : Tree) × IsQuestion text head t q

-- without these words the text is this question, which has no watch and no difference of variables
pub record IsOverQuestion (text : List ℕ) (over : Over) (q : Question) : Type 0 where
  pub read : IsReadAs (plain_text text over) q
  pub free : barred_disjuncts (disjuncts_of q.classed.disjuncts) ≡ None

-- without these words the text has this first fault, or else is a question that has this first
abbrev pub IsOverFault : List ℕ → Over → OverQuestionFault → Type 0
IsOverFault text over (fault.Question f) = IsQuestionFault (plain_text text over) f
IsOverFault text over (fault.Barred from b) =
    (q : Question) × IsReadAs (plain_text text over) q × (from ≡ q.formula)
    × (barred_disjuncts (disjuncts_of q.classed.disjuncts) ≡ Some b)

-- a fault is such; nothing is said where memory runs out
abbrev pub Refuses : Refused OverQuestionFault → (OverQuestionFault → Type 0) → Type 0
Refuses (refused.Fault f) Is = Is f
Refuses refused.NoMemory Is = Unit {0}
