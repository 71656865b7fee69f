-- The document of questions, by what each comes to on a log.
use Rattle.std.specs.Prelude.{◌≡◌, ◌↔◌, ℕ, Bool, IsTrue, List, None, Some, Ok}
use Rattle.std.specs.List.{AllZip}
use Rattle.run_model.specs.Run.{Run, run_of}
use Rattle.question_meaning.specs.Asking.{question}
use Rattle.question_meaning.specs.Question.{Holds}
use Rattle.question_text.specs.declared.head.Head.{Head}
use Rattle.question_forms.specs.Questions.{IsQuestion}
use Rattle.question_forms.specs.declared.question.Question.{Question}
use Rattle.question_instances.specs.Over.{over_of}
use Rattle.rctl_grammar.specs.declared.tree.Tree.{Tree}
use Rattle.rctl_grammar.specs.Shape.{meaning}
use Rattle.rctl_class.specs.NamedParts.{disjuncts_of}
use Rattle.rctl_names.specs.Resolving.{numbered_in}
use Rattle.rctl_names.specs.Seen.{names_of}
use Rattle.rctl_parts.specs.Spelled.{Names}
use Rattle.part_pulls.specs.Observing.{Reading}
use Rattle.part_pulls.specs.declared.observed.Observed.{Observed}
use Rattle.log_intake.specs.Taking.{trace_after}
use Rattle.log_rules.specs.Judgement.{Prefix, states_of}
use Rattle.log_rules.specs.SoFar.{trace_so_far}
use Rattle.ask_questions.specs.Listing.{IsReadAs}
use Rattle.ask_text.specs.Documents.{EntryView, document, one, over}
use Rattle.ask_text.specs.OverText.{OverView}
use Rattle.ask_text.specs.Text.{QuestionView}
use Rattle.over_answers.specs.PassedOn.{Answered}
use Rattle.over_answers.specs.Tallies.{IsTalliedAs, bare_of}
use Rattle.over_answers.specs.declared.answering.Tallied.{Tallied}
use Rattle.question_document.specs.Views.{over_view}
pub use Rattle.question_document.specs.Views.{all_hold, view_holds}
use Rattle.question_outcome.specs.Outcomes.{IsOutcome}

-- the run of a log, and the names of it, with the watches that were handed in
abbrev pub run_on : Reading → Prefix → Run
run_on watches log = run_of (trace_so_far log.header log.batches) watches.watches

abbrev pub names_on : Reading → Prefix → Names
names_on watches log = names_of log.header watches.watch_names

-- what is told of the question of the log of a text: its own form and disjuncts, what it comes to
-- on the log's run, and so whether it holds of that run
pub record IsTold (watches : Reading) (log : Prefix) (text : List ℕ) (view : QuestionView)
    : Type 0 where
  pub q : Question
  pub read : IsReadAs text q
  pub as_asked : view.text ≡ text
  pub formula : view.formula ≡ q.formula
  pub form : view.form ≡ q.form
  pub disjuncts : view.disjuncts ≡ disjuncts_of q.classed.disjuncts
  pub outcome : IsOutcome (run_on watches log) (names_on watches log) q.form
      (numbered_in log.header watches.watch_names (disjuncts_of q.classed.disjuncts)) view.outcome
  pub holds : (head : Head) (t : Tree) → IsQuestion text head t q
      → IsTrue view.outcome.holds ↔ Holds (run_on watches log) (question q.form (meaning t))

-- what was observed of a log for no watch: what questions over processes are answered on
abbrev pub bare_on : Prefix → Observed
bare_on log = bare_of (trace_after log)

-- what is told of the question over processes of a text: its tally on the log's run, and the
-- instance that is shown
pub record IsOverTold (log : Prefix) (text : List ℕ) (view : OverView) : Type 0 where
  pub tallied : Tallied
  pub tally : IsTalliedAs (bare_on log) text tallied
  pub shown : Answered
  pub is : tallied.tally.shown ≡ Some shown
  pub view_is : view ≡ over_view text log.header tallied shown

-- what is told of a question of either kind
abbrev pub IsEntryTold : Reading → Prefix → (text : List ℕ) → EntryView → Type 0
IsEntryTold watches log text (one q) = (over_of text ≡ Ok None) × IsTold watches log text q
IsEntryTold watches log text (over o) = IsOverTold log text o

-- the text is the document of these questions on the log, and this says whether each holds
pub record IsDocument (watches : Reading) (steps : ℕ) (questions : List (List ℕ)) (log : Prefix)
    (holds : Bool) (text : List ℕ) : Type 0 where
  pub views : List EntryView
  pub each : AllZip (IsEntryTold watches log) questions views
  pub text_is : text ≡ document (states_of log) steps views
  pub hold : all_hold views ≡ holds
