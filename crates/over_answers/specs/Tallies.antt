-- What the questions over processes among those of a call come to.
use Rattle.std.specs.Prelude.{◌≡◌, ℕ, List, [], length, Option, None, Some, IfSome, Ok}
use Rattle.std.specs.List.{AllZip}
use Rattle.pota_base.specs.declared.fault.Refused.{Refused}
use Rattle.pota_base.specs.declared.fault.Refused.TheVariants as refused
use Rattle.trace_growth.specs.Growing.{TraceView}
use Rattle.part_pulls.specs.declared.observed.Observed.{Observed}
use Rattle.question_instances.specs.Over.{IsOverIn, over_of}
use Rattle.question_instances.specs.declared.over.Over.{Over}
use Rattle.instance_outcomes.specs.Over.{IsOverStop, IsTallyFor}
use Rattle.instance_outcomes.specs.declared.over.OverStop.{OverStop}
use Rattle.ask_questions.specs.Listing.{IsAt}
use Rattle.over_answers.specs.declared.answering.NumberedStop.{NumberedStop}
use Rattle.over_answers.specs.declared.answering.Tallied.{Tallied}

-- what was observed of a trace, for no watch
abbrev pub bare_of : TraceView → Observed
bare_of trace = record { trace = trace; watch_process = []; watch_rows = [] }

-- the text is a question over processes, which these names stand for, and this is its tally
pub record IsTalliedAs (seen : Observed) (text : List ℕ) (t : Tallied) : Type 0 where
  pub names : over_of text ≡ Ok (Some t.over)
  pub within : IsOverIn (length text) t.over
  pub tally : IsTallyFor seen text t.over t.tally

-- a question of the log has no tally
abbrev pub IsComeTo : Observed → List ℕ → Option Tallied → Type 0
IsComeTo seen text None = over_of text ≡ Ok None
IsComeTo seen text (Some t) = IsTalliedAs seen text t

-- the tallies of the questions over processes among these, in their order
abbrev pub AreTallies : Observed → (texts : List (List ℕ)) → List (Option Tallied) → Type 0
AreTallies seen texts tallies = AllZip (IsComeTo seen) texts tallies

-- ---- the names that stand for processes

-- those of the text, if it has any
pub record IsNamedBy (text : List ℕ) (over : Option Over) : Type 0 where
  pub names : over_of text ≡ Ok over
  pub within : IfSome over (IsOverIn (length text))

abbrev pub AreNamedBy : (texts : List (List ℕ)) → List (Option Over) → Type 0
AreNamedBy texts overs = AllZip IsNamedBy texts overs

-- ---- the first that has none

-- the text is a question over processes that has no tally, for this reason
pub record IsStopOf (seen : Observed) (text : List ℕ) (stop : OverStop) : Type 0 where
  pub over : Over
  pub names : over_of text ≡ Ok (Some over)
  pub stops : IsOverStop seen text over stop

-- the question of that number has none, and each one over processes before it has one
pub record IsFirstStop (seen : Observed) (texts : List (List ℕ)) (f : NumberedStop)
    : Type 0 where
  pub before : List (List ℕ)
  pub text : List ℕ
  pub at : IsAt f.question texts before text
  pub tallies : List (Option Tallied)
  pub tallied : AreTallies seen before tallies
  pub stops : IsStopOf seen text f.stop

-- a refusal is such; nothing is said where memory runs out
abbrev pub Refuses : Refused NumberedStop → (NumberedStop → Type 0) → Type 0
Refuses (refused.Fault f) Is = Is f
Refuses refused.NoMemory Is = Unit {0}
