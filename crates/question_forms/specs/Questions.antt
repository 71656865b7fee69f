-- What the reading of a question gives.
use Rattle.std.specs.Prelude.{◌≡◌, ℕ, ◌+◌, ◌≤◌, ◌⊎◌, List, drop, length, None, Some, Ok, Err}
use Rattle.pota_base.specs.declared.fault.Refused.{Refused}
use Rattle.pota_base.specs.declared.fault.Refused.TheVariants as refused
use Rattle.pota_base.specs.Limits.{longest_formula}
use Rattle.question_text.specs.declared.head.Head.{Head}
use Rattle.question_text.specs.Heads.{head_of}
use Rattle.rctl_grammar.specs.declared.fault.FormulaFault.{FormulaFault}
use Rattle.rctl_grammar.specs.declared.tree.Tree.{Tree}
use Rattle.rctl_parse.specs.Parsing.{IsReadAs, fault_of_text}
use Rattle.rctl_class.specs.Classed.{IsClassed}
use Rattle.rctl_class.specs.NamedParts.{disjuncts_of}
use Rattle.rctl_class.specs.Nodes.{node_of}
use Rattle.question_forms.specs.Taking.{form_fault, form_of, asked_node}
use Rattle.question_forms.specs.declared.question.Question.{Question}
use Rattle.question_forms.specs.declared.question.QuestionFault.{QuestionFault}
use Rattle.question_forms.specs.declared.question.QuestionFault.TheVariants as fault

-- a text of at most 4,096 bytes that is read as this tree
pub record IsFormulaText (text : List ℕ) (t : Tree) : Type 0 where
  pub short : length text ≤ longest_formula
  pub read : IsReadAs text t

-- the text is a question with this head, whose formula has this tree, and which its form takes
pub record IsAsking (text : List ℕ) (head : Head) (t : Tree) : Type 0 where
  pub of_text : head_of text ≡ Ok head
  pub formula : IsFormulaText (drop head.formula text) t
  pub free : form_fault head.asking (node_of t) ≡ None

-- and this is the question: its name, its form, the byte from which on its formula is, and the
-- disjuncts that the form asks
pub record IsQuestion (text : List ℕ) (head : Head) (t : Tree) (q : Question) : Type 0 where
  pub asking : IsAsking text head t
  pub name : q.name ≡ head.name
  pub from : q.formula ≡ head.formula
  pub form : q.form ≡ form_of head.asking (node_of t)
  pub classed : IsClassed (asked_node q.form (node_of t)) (disjuncts_of q.classed.disjuncts)

-- ---- the first fault

-- the formula behind the head has this first fault: of its text, or else of what the form takes
abbrev pub IsFormulaFault : List ℕ → Head → FormulaFault → Type 0
IsFormulaFault text head f =
    (fault_of_text (drop head.formula text) ≡ Some f)
    ⊎ ((t : Tree) × IsFormulaText (drop head.formula text) t
    × (form_fault head.asking (node_of t) ≡ Some f))

-- the text has this first fault: of its head, or else of its formula, which is from that byte on
abbrev pub IsQuestionFault : List ℕ → QuestionFault → Type 0
IsQuestionFault text (fault.Head f) = head_of text ≡ Err f
IsQuestionFault text (fault.Formula from f) =
    (head : Head) × (head_of text ≡ Ok head) × (from ≡ head.formula) × IsFormulaFault text head f

-- the byte of the question at which a fault is
abbrev pub place_of : QuestionFault → ℕ
place_of (fault.Head f) = f.place
place_of (fault.Formula from f) = from + f.place

-- a fault is such; nothing is said where memory runs out
abbrev pub Refuses : Refused QuestionFault → (QuestionFault → Type 0) → Type 0
Refuses (refused.Fault f) Is = Is f
Refuses refused.NoMemory Is = Unit {0}
