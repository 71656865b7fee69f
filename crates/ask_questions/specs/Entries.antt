-- Questions of both kinds: those that are asked of the log in one list, and the names that stand
-- for processes of the others; and the first fault of texts that have none.
use Rattle.std.specs.Prelude.{◌≡◌, ℕ, ◌≤◌, ◌⊎◌, ⊤, true, List, [], ◌∷◌, length, Option, None, Some}
use Rattle.std.specs.Prelude.{Ok}
use Rattle.asked_list.specs.Lists.{HasRoom, IsAskedList, disjuncts_in}
use Rattle.asked_list.specs.declared.list.AskedList.{AskedList}
use Rattle.asked_list.specs.declared.list.Listed.{Listed}
use Rattle.question_meaning.specs.declared.form.Form.TheVariants as form
use Rattle.question_forms.specs.declared.question.Question.{Question}
use Rattle.question_instances.specs.Over.{IsOverIn, over_of}
use Rattle.question_instances.specs.declared.over.Over.{Over}
use Rattle.over_questions.specs.Entries.{IsEntryFault, IsEntryOf}
use Rattle.over_questions.specs.Reading.{IsOverQuestion}
use Rattle.over_questions.specs.declared.entry.Entry.{Entry}
use Rattle.over_questions.specs.declared.entry.Entry.TheVariants as entry
use Rattle.over_questions.specs.declared.entry.EntryFault.{EntryFault}
use Rattle.rctl_class.specs.NamedParts.{local, truth}
use Rattle.ask_questions.specs.Listing.{AreBehind, IsAt, IsListed}
use Rattle.ask_questions.specs.declared.reading.AskedQuestions.{AskedQuestions}
use Rattle.ask_questions.specs.declared.reading.QuestionsFault.{QuestionsFault}
use Rattle.ask_questions.specs.declared.reading.QuestionsFault.TheVariants as fault
use Rattle.ask_questions.specs.declared.reading.NumberedFault.{NumberedFault}

-- ---- the questions

-- the text is a question over processes, which these names stand for
pub record IsOverAs (text : List ℕ) (over : Over) : Type 0 where
  pub names : over_of text ≡ Ok (Some over)
  pub within : IsOverIn (length text) over
  pub q : Question
  pub question : IsOverQuestion text over q

-- the text is a question of the log, which the entry of the list is
pub record IsListedOne (list : AskedList) (text : List ℕ) (one : Listed) : Type 0 where
  pub names : over_of text ≡ Ok None
  pub listed : IsListed list text one

-- one after the other, each text is a question of the log, which the next entry of the list is, or
-- one over processes, which these names stand for
abbrev pub AreEach : AskedList → (texts : List (List ℕ)) → List (Option Over) → List Listed → Type 0
AreEach list [] [] [] = ⊤
AreEach list [] [] (one ∷ ones) = ⊥
AreEach list [] (o ∷ os) ones = ⊥
AreEach list (text ∷ texts) [] ones = ⊥
AreEach list (text ∷ texts) (None ∷ os) [] = ⊥
AreEach list (text ∷ texts) (None ∷ os) (one ∷ ones) =
    IsListedOne list text one × AreEach list texts os ones
AreEach list (text ∷ texts) (Some over ∷ os) ones =
    IsOverAs text over × AreEach list texts os ones

-- these are the questions of the texts, and the list has nothing besides
pub record AreAsked (texts : List (List ℕ)) (asked : AskedQuestions) : Type 0 where
  pub fit : IsAskedList asked.list
  pub each : AreEach asked.list texts asked.overs asked.list.listed
  pub whole : AreBehind 0 asked.list.listed (length asked.list.classed.disjuncts)

-- the list has no question, and the one disjunct `true`
pub record IsOfTrue (list : AskedList) : Type 0 where
  pub none : list.listed ≡ []
  pub disjuncts : disjuncts_in list ≡ (local None (truth true) ∷ []) ∷ []
  pub forms : list.forms ≡ form.Plain ∷ []
  pub parts : list.parts ≡ 1

-- these are the questions of the texts, and a log can be observed for the list: it has nothing
-- besides, or, where none of them is asked of the log, the disjunct `true`
pub record CanBeObserved (texts : List (List ℕ)) (asked : AskedQuestions) : Type 0 where
  pub fit : IsAskedList asked.list
  pub each : AreEach asked.list texts asked.overs asked.list.listed
  pub some : 1 ≤ length asked.list.classed.disjuncts
  pub whole : AreBehind 0 asked.list.listed (length asked.list.classed.disjuncts)
      ⊎ IsOfTrue asked.list

-- ---- the first fault

-- the text is a question of either kind
abbrev pub IsReadable : List ℕ → Type 0
IsReadable text = (e : Entry) × IsEntryOf text e

abbrev pub AreReadable : List (List ℕ) → Type 0
AreReadable [] = ⊤
AreReadable (text ∷ texts) = IsReadable text × AreReadable texts

-- the text of that number is no question, for this reason, and each one before it is one
pub record IsUnreadableAt (number : ℕ) (texts : List (List ℕ)) (f : EntryFault)
    : Type 0 where
  pub before : List (List ℕ)
  pub text : List ℕ
  pub at : IsAt number texts before text
  pub readable : AreReadable before
  pub unreadable : IsEntryFault text f

-- each text is a question, and the list of those before the one of that number has no room for it
pub record IsTooManyAt (number : ℕ) (texts : List (List ℕ)) : Type 0 where
  pub readable : AreReadable texts
  pub before : List (List ℕ)
  pub text : List ℕ
  pub at : IsAt number texts before text
  pub asked : AskedQuestions
  pub are : AreAsked before asked
  pub question : Question
  pub read : IsEntryOf text (entry.One question)
  pub full : HasRoom asked.list question → ⊥

-- the first fault of the texts
abbrev pub IsFaultAt : List (List ℕ) → ℕ → QuestionsFault → Type 0
IsFaultAt texts number (fault.Question f) = IsUnreadableAt number texts f
IsFaultAt texts number fault.TooMany = IsTooManyAt number texts

abbrev pub IsFirstFault : List (List ℕ) → NumberedFault → Type 0
IsFirstFault texts f = IsFaultAt texts f.question f.fault
