-- What instances of a question over processes come to, on what was observed of a log.
use Rattle.std.specs.Prelude.{◌≡◌, ◌↔◌, ◌≤◌, false, IsTrue, List, [], ◌∷◌, ◌++◌, None, Some}
use Rattle.std.specs.List.{AllByRecursion, AllZip}
use Rattle.run_model.specs.Run.{Run, Watches, run_of}
use Rattle.event_log.specs.declared.log.Header.{Header}
use Rattle.question_meaning.specs.Asking.{question}
use Rattle.question_meaning.specs.Question.{Holds}
use Rattle.question_meaning.specs.declared.form.Form.{Form}
use Rattle.question_text.specs.declared.head.Head.{Head}
use Rattle.question_forms.specs.Questions.{IsQuestion}
use Rattle.question_forms.specs.declared.question.Question.{Question}
use Rattle.over_questions.specs.Barred.{barred_disjuncts}
use Rattle.rctl_grammar.specs.declared.tree.Tree.{Tree}
use Rattle.rctl_grammar.specs.Shape.{meaning}
use Rattle.rctl_class.specs.NamedParts.{NamedPiece, disjuncts_of}
use Rattle.rctl_names.specs.Resolving.{CanResolve, numbered_in}
use Rattle.rctl_names.specs.Seen.{names_of}
use Rattle.part_pulls.specs.Observing.{trace_seen}
use Rattle.part_pulls.specs.declared.observed.Observed.{Observed}
use Rattle.trace_growth.specs.Growing.{IsTrace}
use Rattle.pota_base.specs.declared.fault.Refused.{Refused}
use Rattle.pota_base.specs.declared.fault.Refused.TheVariants as refused
use Rattle.pota_base.specs.Limits.{most_parts}
use Rattle.asked_list.specs.Lists.{asked_count}
use Rattle.asked_instances.specs.Instances.{IsKnownAs}
use Rattle.asked_instances.specs.declared.asking.Instance.{Instance}
use Rattle.question_outcome.specs.Outcomes.{IsOutcome}
use Rattle.question_outcome.specs.declared.outcome.Outcome.{Outcome}
use Rattle.instance_outcomes.specs.Tallies.{IsTallyOf}
use Rattle.instance_outcomes.specs.declared.asking.AskFault.{AskFault}
use Rattle.instance_outcomes.specs.declared.asking.AskFault.TheVariants as fault
use Rattle.instance_outcomes.specs.declared.asking.InstanceFault.{InstanceFault}
use Rattle.instance_outcomes.specs.declared.tallied.Answered.{Answered}
use Rattle.instance_outcomes.specs.declared.tallied.Tally.{Tally}

-- ---- what was observed

-- the header of the log that was observed
abbrev pub header_of : Observed → Header
header_of seen = seen.trace.states.header

-- the run that was observed; whatever the watches are, since no instance names one
abbrev pub run_by : Observed → Watches → Run
run_by seen watches = run_of (trace_seen seen) watches

-- a log was observed for no watch, and memory sufficed
pub record IsBare (seen : Observed) : Type 0 where
  pub unspent : seen.trace.spent ≡ false
  pub trace : IsTrace seen.trace.states
  pub watches : seen.watch_process ≡ []
  pub header : CanResolve (header_of seen) []

-- ---- instances

-- the instance's text is its question, and the header has each name of it
abbrev pub IsKnownIn : Header → Instance → Type 0
IsKnownIn header i = IsKnownAs header [] i.text i.question

abbrev pub AreKnown : Header → List Instance → Type 0
AreKnown header is = AllByRecursion (IsKnownIn header) is

-- the question has no watch and no difference, and asks no more parts than may be observed
pub record CanAsk (q : Question) : Type 0 where
  pub free : barred_disjuncts (disjuncts_of q.classed.disjuncts) ≡ None
  pub parts : asked_count q.form (disjuncts_of q.classed.disjuncts) ≤ most_parts

-- or this is why not
abbrev pub CannotAsk : Question → AskFault → Type 0
CannotAsk q (fault.Barred from barred) =
    (from ≡ q.formula) × (barred_disjuncts (disjuncts_of q.classed.disjuncts) ≡ Some barred)
CannotAsk q fault.TooMany =
    (barred_disjuncts (disjuncts_of q.classed.disjuncts) ≡ None)
    × (asked_count q.form (disjuncts_of q.classed.disjuncts) ≤ most_parts → ⊥)

abbrev pub CanBeAsked : Instance → Type 0
CanBeAsked i = CanAsk i.question

-- ---- what each comes to

-- the outcome is that of the question of this form that asks these disjuncts, on the run
abbrev pub IsOutcomeFor : Observed → Form → List (List NamedPiece) → Outcome → Type 0
IsOutcomeFor seen form ds o =
    (watches : Watches) → IsOutcome (run_by seen watches) (names_of (header_of seen) []) form
    (numbered_in (header_of seen) [] ds) o

-- the instance's question holds of the run
abbrev pub HoldsFor : Observed → Watches → Instance → Type 0
HoldsFor seen watches i =
    (head : Head) (t : Tree) → IsQuestion i.text head t i.question
    → Holds (run_by seen watches) (question i.question.form (meaning t))

-- an answered instance is this one, and has the outcome of its question, by which that holds or not
pub record IsAnswered (seen : Observed) (i : Instance) (a : Answered) : Type 0 where
  pub pair : a.pair ≡ i.pair
  pub text : a.text ≡ i.text
  pub formula : a.formula ≡ i.question.formula
  pub form : a.form ≡ i.question.form
  pub disjuncts : a.disjuncts ≡ i.question.classed.disjuncts
  pub can : CanBeAsked i
  pub outcome : IsOutcomeFor seen i.question.form (disjuncts_of i.question.classed.disjuncts)
      a.outcome
  pub holds : (watches : Watches) → IsTrue a.outcome.holds ↔ HoldsFor seen watches i

-- the tally of all of the instances
pub record IsTally (seen : Observed) (is : List Instance) (t : Tally) : Type 0 where
  pub answers : List Answered
  pub each : AllZip (IsAnswered seen) is answers
  pub counted : IsTallyOf answers t

-- ---- why there is no tally

-- the instance can't be asked, for this reason
pub record IsStopOf (i : Instance) (f : InstanceFault) : Type 0 where
  pub pair : f.pair ≡ i.pair
  pub why : CannotAsk i.question f.why

-- one of the instances can't be asked, for this reason, and each before it can
pub record IsFirstStop (is : List Instance) (f : InstanceFault) : Type 0 where
  pub before : List Instance
  pub here : Instance
  pub behind : List Instance
  pub among : is ≡ before ++ here ∷ behind
  pub each : AllByRecursion CanBeAsked before
  pub stops : IsStopOf here f

-- a fault is such; nothing is said where memory runs out
abbrev pub Refuses : Refused InstanceFault → (InstanceFault → Type 0) → Type 0
Refuses (refused.Fault f) Is = Is f
Refuses refused.NoMemory Is = Unit {0}
