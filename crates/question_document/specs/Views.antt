-- What is told of each question, by what the questions come to.
use Rattle.std.specs.Prelude.{◌≡◌, ℕ, ◌≤◌, ◌==◌, ⊤, Bool, true, ◌&&◌, List, [], ◌∷◌, ◌++◌}
use Rattle.std.specs.Prelude.{length, Option, None, Some}
use Rattle.std.specs.List.{slice_range}
use Rattle.event_log.specs.LogText.{name_at}
use Rattle.event_log.specs.States.{StatesView}
use Rattle.event_log.specs.declared.log.Header.{Header}
use Rattle.question_text.specs.declared.head.Span.{Span}
use Rattle.question_instances.specs.Instances.{Renaming}
use Rattle.question_instances.specs.Over.{IsOverIn}
use Rattle.question_outcome.specs.declared.outcome.Outcome.{Outcome}
use Rattle.rctl_class.specs.NamedParts.{NamedPiece, disjuncts_of}
use Rattle.asked_list.specs.Lists.{disjuncts_in, range_of}
use Rattle.asked_list.specs.declared.list.Listed.{Listed}
use Rattle.over_answers.specs.PassedOn.{Answered}
use Rattle.over_answers.specs.declared.answering.Tallied.{Tallied}
use Rattle.ask_text.specs.Documents.{EntryView, one, over}
use Rattle.ask_text.specs.OverText.{OverView}
use Rattle.ask_text.specs.Text.{IsOnRun, QuestionView}
use Rattle.question_document.specs.declared.documents.Came.{Came}

-- ---- one question

-- a question of the log: that of an entry of a list that has these disjuncts
abbrev pub view_at : List (List NamedPiece) → (text : List ℕ) → Listed → Outcome → QuestionView
view_at ds text entry o = record {
  text = text;
  formula = entry.formula;
  form = entry.range.form;
  disjuncts = range_of entry.range.from entry.range.to ds;
  outcome = o;
}

-- a name that stands for a process: that of its place in the text
abbrev pub naming_at : (text : List ℕ) → Header → Span → ℕ → Renaming
naming_at text h span process = record {
  word = slice_range text span.from span.to;
  process = name_at h.procs process;
}

abbrev pub second_naming : (text : List ℕ) → Header → Option Span → Option ℕ → Option Renaming
second_naming text h None process = None
second_naming text h (Some span) None = None
second_naming text h (Some span) (Some process) = Some (naming_at text h span process)

-- an instance of a question over processes, and what it comes to
abbrev pub instance_view : Answered → QuestionView
instance_view a = record {
  text = a.text;
  formula = a.formula;
  form = a.form;
  disjuncts = disjuncts_of a.disjuncts;
  outcome = a.outcome;
}

-- a question over processes, by its tally, of which this instance is shown
abbrev pub over_view : (text : List ℕ) → Header → Tallied → Answered → OverView
over_view text h t a = record {
  text = text;
  asked = t.tally.asked;
  fails = t.tally.fails;
  nowhere = t.tally.nowhere;
  first = naming_at text h t.over.first a.pair.first;
  second = second_naming text h t.over.second a.pair.second;
  shown = instance_view a;
}

-- ---- all of them

abbrev pub over_entries : (text : List ℕ) → Header → Tallied → Option Answered → List EntryView
over_entries text h t None = []
over_entries text h t (Some a) = over (over_view text h t a) ∷ []

-- each text is a question over processes, of which this is the tally, or the next one of the
-- entries, which comes to the next one of the outcomes
abbrev pub views_from : List (List NamedPiece) → Header → (texts : List (List ℕ))
    → List (Option Tallied) → List Listed → List Outcome → List EntryView
views_from ds h [] ts es os = []
views_from ds h (text ∷ texts) [] es os = []
views_from ds h (text ∷ texts) (Some t ∷ ts) es os =
    over_entries text h t t.tally.shown ++ views_from ds h texts ts es os
views_from ds h (text ∷ texts) (None ∷ ts) [] os = []
views_from ds h (text ∷ texts) (None ∷ ts) (e ∷ es) [] = []
views_from ds h (text ∷ texts) (None ∷ ts) (e ∷ es) (o ∷ os) =
    one (view_at ds text e o) ∷ views_from ds h texts ts es os

abbrev pub views_of : Header → (texts : List (List ℕ)) → Came → List EntryView
views_of h texts came =
    views_from (disjuncts_in came.list.now) h texts came.tallies.now came.list.now.listed
    came.outcomes.now

-- the question holds: one over processes where it fails for none
abbrev pub view_holds : EntryView → Bool
view_holds (one q) = q.outcome.holds
view_holds (over o) = o.fails == 0

-- each of them holds
abbrev pub all_hold : List EntryView → Bool
all_hold [] = true
all_hold (v ∷ vs) = view_holds v && all_hold vs

-- ---- what can be told

-- the disjuncts of the entry are there
pub record IsThere (disjuncts : ℕ) (entry : Listed) : Type 0 where
  pub up : entry.range.from ≤ entry.range.to
  pub within : entry.range.to ≤ disjuncts

-- an instance is shown whose witnesses are of the run
pub record CanShow (s : StatesView) (text : List ℕ) (t : Tallied) : Type 0 where
  pub over : IsOverIn (length text) t.over
  pub shown : Answered
  pub is : t.tally.shown ≡ Some shown
  pub on_run : IsOnRun s (instance_view shown)

-- the witnesses of a question of the log are of the run
pub record CanPut (s : StatesView) (ds : List (List NamedPiece)) (text : List ℕ) (e : Listed)
    (o : Outcome) : Type 0 where
  pub there : IsThere (length ds) e
  pub on_run : IsOnRun s (view_at ds text e o)

-- so for each text, and there is what it comes to
abbrev pub CanTellFrom : StatesView → List (List NamedPiece) → (texts : List (List ℕ))
    → List (Option Tallied) → List Listed → List Outcome → Type 0
CanTellFrom s ds [] ts es os = ⊤
CanTellFrom s ds (text ∷ texts) [] es os = ⊥
CanTellFrom s ds (text ∷ texts) (Some t ∷ ts) es os =
    CanShow s text t × CanTellFrom s ds texts ts es os
CanTellFrom s ds (text ∷ texts) (None ∷ ts) [] os = ⊥
CanTellFrom s ds (text ∷ texts) (None ∷ ts) (e ∷ es) [] = ⊥
CanTellFrom s ds (text ∷ texts) (None ∷ ts) (e ∷ es) (o ∷ os) =
    CanPut s ds text e o × CanTellFrom s ds texts ts es os

abbrev pub CanTell : StatesView → (texts : List (List ℕ)) → Came → Type 0
CanTell s texts came =
    CanTellFrom s (disjuncts_in came.list.now) texts came.tallies.now came.list.now.listed
    came.outcomes.now
