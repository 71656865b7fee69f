-- A question over processes, with the names of processes of a log in it.
use Rattle.std.specs.Prelude.{◌≡◌, ℕ, zero, suc, ◌==◌, ◌⊎◌, ⊤, List, [], ◌∷◌, ◌++◌, length}
use Rattle.std.specs.Prelude.{Option, None, Some, if◌then◌else◌}
use Rattle.std.specs.List.{slice_range}
use Rattle.run_model.specs.Run.{Name}
use Rattle.event_log.specs.declared.log.Header.{Header}
use Rattle.question_text.specs.declared.head.Head.{Head}
use Rattle.question_text.specs.declared.head.Span.{Span}
use Rattle.question_forms.specs.Questions.{IsQuestion, IsQuestionFault}
use Rattle.question_forms.specs.declared.question.QuestionFault.{QuestionFault}
use Rattle.question_forms.specs.declared.question.Question.{Question}
use Rattle.event_log.specs.LogText.{name_at}
use Rattle.question_instances.specs.Instances.{Renaming, instance_text}
use Rattle.question_instances.specs.declared.over.Over.{Over}
use Rattle.rctl_class.specs.NamedParts.{disjuncts_of, disjuncts_uses}
use Rattle.rctl_class.specs.Uses.{first_unknown}
use Rattle.rctl_grammar.specs.declared.fault.FormulaFault.{FormulaFault}
use Rattle.rctl_grammar.specs.declared.tree.Tree.{Tree}
use Rattle.rctl_names.specs.Numbers.{known_in}
use Rattle.rctl_names.specs.Seen.{names_of}
use Rattle.asked_instances.specs.declared.asking.Pair.{Pair}
use Rattle.asked_instances.specs.declared.asking.Instance.{Instance}
use Rattle.asked_instances.specs.declared.asking.Asked.{Asked}

-- ---- which names a log has

-- the first name of the question that is unknown, or is a watch on a second process
abbrev pub unknown_in : Header → List Name → Question → Option FormulaFault
unknown_in header watches q =
    first_unknown (known_in (names_of header watches)) []
    (disjuncts_uses (disjuncts_of q.classed.disjuncts))

abbrev pub KnowsNames : Header → List Name → Question → Type 0
KnowsNames header watches q = unknown_in header watches q ≡ None

abbrev pub LacksName : Header → List Name → Question → Type 0
LacksName header watches q = (f : FormulaFault) × (unknown_in header watches q ≡ Some f)

-- the text is this question
abbrev pub IsReadAs : List ℕ → Question → Type 0
IsReadAs text q = (head : Head) × (t : Tree) × IsQuestion text head t q

-- the text is this question, of which each name is known
pub record IsKnownAs (header : Header) (watches : List Name) (text : List ℕ) (q : Question)
    : Type 0 where
  pub read : IsReadAs text q
  pub known : KnowsNames header watches q

-- the text is a question of which some name isn't
abbrev pub IsLacking : Header → List Name → List ℕ → Type 0
IsLacking header watches text = (q : Question) × IsReadAs text q × LacksName header watches q

-- ---- the pairs of processes

-- one process as the first, and as the second each other one of so many
abbrev pub pairs_with : ℕ → ℕ → List Pair
pairs_with first zero = []
pairs_with first (suc second) =
    pairs_with first second
    ++ (if first == second then [] else record { first = first; second = Some second } ∷ [])

-- each two different ones of so many, of which the first is one of `firsts`
abbrev pub pairs_below : (procs firsts : ℕ) → List Pair
pairs_below procs zero = []
pairs_below procs (suc first) = pairs_below procs first ++ pairs_with first procs

-- each one of so many
abbrev pub singles_below : ℕ → List Pair
singles_below zero = []
singles_below (suc first) = singles_below first ++ record { first = first; second = None } ∷ []

-- the processes that are asked about: each two where there is a second name, and else each one
abbrev pub pairs_of : Option Span → ℕ → List Pair
pairs_of None procs = singles_below procs
pairs_of (Some second) procs = pairs_below procs procs

-- ---- the texts

-- a question over processes, and the names of a log
pub record Source : Type 0 where
  pub text : List ℕ
  pub over : Over
  pub header : Header
  pub watches : List Name

-- what the code hands on of it
abbrev pub source_of : Asked → Source
source_of asked = record {
  text = asked.text.now;
  over = asked.over;
  header = asked.header.now;
  watches = asked.watches.now;
}

-- a process for the name that stands there
abbrev pub renaming_for : Source → Span → ℕ → Renaming
renaming_for s span process = record {
  word = slice_range s.text span.from span.to;
  process = name_at s.header.procs process;
}

abbrev pub second_renaming : Source → Option Span → Option ℕ → List Renaming
second_renaming s None second = []
second_renaming s (Some span) None = []
second_renaming s (Some span) (Some process) = renaming_for s span process ∷ []

-- the question with the names of these processes
abbrev pub text_for : Source → Pair → List ℕ
text_for s pair =
    instance_text s.text s.over
    (renaming_for s s.over.first pair.first ∷ second_renaming s s.over.second pair.second)

-- the question for these processes, of which each name is known
pub record IsInstance (s : Source) (pair : Pair) (i : Instance) : Type 0 where
  pub pair_is : i.pair ≡ pair
  pub text : i.text ≡ text_for s pair
  pub known : IsKnownAs s.header s.watches (text_for s pair) i.question

-- some name is not known of the text for these processes
abbrev pub HasNone : Source → Pair → Type 0
HasNone s pair = IsLacking s.header s.watches (text_for s pair)

-- the texts for these processes of which each name is known, in order
abbrev pub AreInstances : Source → List Pair → List Instance → Type 0
AreInstances s [] [] = ⊤
AreInstances s [] (i ∷ is) = ⊥
AreInstances s (p ∷ ps) [] = HasNone s p × AreInstances s ps []
AreInstances s (p ∷ ps) (i ∷ is) =
    (IsInstance s p i × AreInstances s ps is) ⊎ (HasNone s p × AreInstances s ps (i ∷ is))

-- the texts that are asked, one for each of these
abbrev pub pairs_asked : Source → List Pair
pairs_asked s = pairs_of s.over.second (length s.header.procs)

-- the text is a question
abbrev pub IsReadable : List ℕ → Type 0
IsReadable text = (q : Question) × IsReadAs text q

-- the text for one of these is the first that is no question, for this reason
abbrev pub IsFirstFault : Source → List Pair → QuestionFault → Type 0
IsFirstFault s [] f = ⊥
IsFirstFault s (p ∷ ps) f =
    IsQuestionFault (text_for s p) f ⊎ (IsReadable (text_for s p) × IsFirstFault s ps f)

-- the fault of a question over processes on a log
abbrev pub IsFaultFor : Source → QuestionFault → Type 0
IsFaultFor s f = IsFirstFault s (pairs_asked s) f
