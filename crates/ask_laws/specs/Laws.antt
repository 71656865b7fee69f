-- Laws of a call that asks questions, as statements: where the line of a question says `ok`.
use Rattle.std.specs.Prelude.{◌≡◌, ◌↔◌, ◌⊎◌, ⊤, ℕ, List, [], drop, Option, None, Some, Ok}
use Rattle.std.specs.List.{AllByRecursion}
use Rattle.run_model.specs.Cut.{Cut, lengths, initial}
use Rattle.run_model.specs.Run.{Run}
use Rattle.run_model.specs.Consistent.{IsConsistent}
use Rattle.run_model.specs.Formula.{Formula}
use Rattle.run_model.specs.Meaning.{Sat}
use Rattle.question_meaning.specs.Question.{EachPathMeets}
use Rattle.pota_base.specs.Changes.{change_of}
use Rattle.rctl_grammar.specs.declared.tree.Tree.{Tree}
use Rattle.rctl_grammar.specs.Shape.{meaning}
use Rattle.question_text.specs.declared.front.Asking.{Asking}
use Rattle.question_text.specs.declared.front.Asking.TheVariants as asking
use Rattle.question_text.specs.declared.head.Head.{Head}
use Rattle.question_instances.specs.Over.{over_of}
use Rattle.question_instances.specs.declared.over.Over.{Over}
use Rattle.question_forms.specs.Questions.{IsAsking}
use Rattle.part_pulls.specs.Observing.{Reading}
use Rattle.log_rules.specs.Judgement.{Prefix}
use Rattle.log_input.specs.Readings.{HasLog}
use Rattle.ask_questions.specs.Listing.{IsAt}
use Rattle.ask_words.specs.Asking.{asked_by}
use Rattle.ask_words.specs.declared.asking.Asked.{Asked}
use Rattle.ask_top.specs.Asking.{HasAnswered}
use Rattle.ask_top.specs.Documents.{run_on}
use Rattle.ask_top.specs.declared.answer.Answer.{Answer}
use Rattle.ask_top.specs.declared.answer.Answer.TheVariants.{Holds, Fails, Without}
use Rattle.asked_instances.specs.Instances.{Source, pairs_asked}
use Rattle.ask_laws.specs.Instances.{HoldsWhereKnown}
use Rattle.ask_laws.specs.Lines.{SaysOk, SaysNotOk, HasLines}

-- ---- a call, and a question of it

-- the questions of a command line
abbrev pub questions_by : Option Asked → (words : List (List ℕ)) → List (List ℕ)
questions_by None words = []
questions_by (Some asked) words = drop asked.questions_from words

abbrev pub questions_of : (words : List (List ℕ)) → List (List ℕ)
questions_of words = questions_by (asked_by words) words

-- an answer is no fault
abbrev pub IsGiven : Answer → Type 0
IsGiven Holds = ⊤
IsGiven Fails = ⊤
IsGiven (Without f) = ⊥

-- by what `ask` says of it, a call with these watches and words was answered: these bytes were read
-- and this document was written
pub record HasWritten (watches : Reading) (words : List (List ℕ)) (read document : List ℕ)
    : Type 0 where
  pub left_before : Option (List ℕ)
  pub left_after : Option (List ℕ)
  pub held_before : Option (List ℕ)
  pub held_after : Option (List ℕ)
  pub read_faults_before : ℕ
  pub read_faults_after : ℕ
  pub write_faults_before : ℕ
  pub write_faults_after : ℕ
  pub answer : Answer
  pub given : IsGiven answer
  pub said : HasAnswered watches
      (change_of left_before left_after read_faults_before read_faults_after) (change_of held_before
      held_after write_faults_before write_faults_after) words answer
  pub read_is : said.read ≡ read
  pub document_is : said.written ≡ document

-- the bytes are a log of this run, in the form that the words say
pub record AreLogOf (watches : Reading) (words : List (List ℕ)) (read : List ℕ) (r : Run)
    : Type 0 where
  pub asked : Asked
  pub asks : asked_by words ≡ Some asked
  pub log : Prefix
  pub has : HasLog asked.form read log
  pub run_is : run_on watches log ≡ r

-- a question is asked of the log, and its text has the words of this form, and this formula
pub record Asks (question : List ℕ) (words : Asking) (f : Formula) : Type 0 where
  pub of_log : over_of question ≡ Ok None
  pub head : Head
  pub tree : Tree
  pub is : IsAsking question head tree
  pub words_are : head.asking ≡ words
  pub formula_is : meaning tree ≡ f

-- A call was answered that read a log of this run and wrote this document, and this is its question
-- of that number, from 1.
pub record IsAskedAt (r : Run) (document : List ℕ) (number : ℕ) (question : List ℕ) : Type 0 where
  pub watches : Reading
  pub words : List (List ℕ)
  pub read : List ℕ
  pub wrote : HasWritten watches words read document
  pub run : AreLogOf watches words read r
  pub before : List (List ℕ)
  pub at : IsAt number (questions_of words) before question

-- so it is, and its text has the words of this form, and this formula
pub record IsAsked (r : Run) (document : List ℕ) (number : ℕ) (question : List ℕ) (form : Asking)
    (f : Formula) : Type 0 where
  pub call : IsAskedAt r document number question
  pub asks : Asks question form f

-- so it is, and it is a question over processes: this one, with the names of the log
pub record IsAskedOver (r : Run) (document : List ℕ) (number : ℕ) (question : List ℕ)
    (s : Source) : Type 0 where
  pub call : IsAskedAt r document number question
  pub over : Over
  pub names : over_of question ≡ Ok (Some over)
  pub source_is : s
      ≡ record { text = question; over = over; header = call.run.log.header; watches = [] }

-- ---- where it holds

-- `never F`: where no consistent cut satisfies F
abbrev pub NeverHoldsWhereNoCutSatisfies : Type 0
NeverHoldsWhereNoCutSatisfies =
    (r : Run) (document : List ℕ) (number : ℕ) (question : List ℕ) (f : Formula)
    → IsAsked r document number question asking.Never f
    → SaysOk document number question
    ↔ ((c : Cut) → IsConsistent r.clocks c → Sat r f c → ⊥)

-- `can F`: where some consistent cut does
abbrev pub CanHoldsWhereSomeCutSatisfies : Type 0
CanHoldsWhereSomeCutSatisfies =
    (r : Run) (document : List ℕ) (number : ℕ) (question : List ℕ) (f : Formula)
    → IsAsked r document number question asking.Can f
    → SaysOk document number question
    ↔ ((c : Cut) × IsConsistent r.clocks c × Sat r f c)

-- `always F`: where each consistent cut does, in whichever way it is asked
abbrev pub AlwaysHoldsWhereEachCutSatisfies : Type 0
AlwaysHoldsWhereEachCutSatisfies =
    (r : Run) (document : List ℕ) (number : ℕ) (question : List ℕ) (f : Formula)
    → IsAsked r document number question asking.Always f
    → SaysOk document number question ↔ ((c : Cut) → IsConsistent r.clocks c → Sat r f c)

-- `surely F`: where each path from the initial to the final cut has a cut that does
abbrev pub SurelyHoldsWhereEachPathMeets : Type 0
SurelyHoldsWhereEachPathMeets =
    (r : Run) (document : List ℕ) (number : ℕ) (question : List ℕ) (f : Formula)
    → IsAsked r document number question asking.Surely f
    → SaysOk document number question ↔ EachPathMeets r (Sat r f)

-- `at end F`: where the final cut does
abbrev pub AtEndHoldsWhereTheFinalCutSatisfies : Type 0
AtEndHoldsWhereTheFinalCutSatisfies =
    (r : Run) (document : List ℕ) (number : ℕ) (question : List ℕ) (f : Formula)
    → IsAsked r document number question asking.AtEnd f
    → SaysOk document number question ↔ Sat r f (lengths r.clocks)

-- `F` alone: where the initial cut does
abbrev pub PlainHoldsWhereTheInitialCutSatisfies : Type 0
PlainHoldsWhereTheInitialCutSatisfies =
    (r : Run) (document : List ℕ) (number : ℕ) (question : List ℕ) (f : Formula)
    → IsAsked r document number question asking.Plain f
    → SaysOk document number question ↔ Sat r f (initial r.clocks)

-- `for P Q: ..`: where the question with the names of two different processes in it holds, for each
-- two of which the log has all names that the question then has; with `for P: ..`, for each one
abbrev pub OverHoldsWhereItHoldsForEach : Type 0
OverHoldsWhereItHoldsForEach =
    (r : Run) (document : List ℕ) (number : ℕ) (question : List ℕ) (s : Source)
    → IsAskedOver r document number question s
    → SaysOk document number question ↔ AllByRecursion (HoldsWhereKnown r s) (pairs_asked s)

-- ---- the lines

-- the document of a call that was answered has a line for each question, and no other result
abbrev pub EachQuestionHasItsLine : Type 0
EachQuestionHasItsLine =
    (watches : Reading) (words : List (List ℕ)) (read document : List ℕ)
    → HasWritten watches words read document → HasLines document (questions_of words)

-- the line of a question says `ok` or `not ok`
abbrev pub ItSaysOkOrNotOk : Type 0
ItSaysOkOrNotOk =
    (r : Run) (document : List ℕ) (number : ℕ) (question : List ℕ)
    → IsAskedAt r document number question
    → SaysOk document number question ⊎ SaysNotOk document number question

-- and not both
abbrev pub ItSaysNotBoth : Type 0
ItSaysNotBoth =
    (document : List ℕ) (number : ℕ) (question : List ℕ)
    → SaysOk document number question → SaysNotOk document number question → ⊥
