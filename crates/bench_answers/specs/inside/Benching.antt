-- Inside: what the summary of a bench is, and how far it has been made and written.
use Rattle.std.specs.Prelude.{◌≡◌, ℕ, ◌≤◌, ◌↔◌, true, List, [], Option, Some, None, Result, Ok, Err}
use Rattle.std.specs.Io.KnownBytes.{Appends}
use Rattle.pota_base.specs.Outside.{Rose, IsPrefix}
use Rattle.pota_base.specs.Changes.{Change, Counts, faults_of}
use Rattle.rctl_grammar.specs.declared.fault.FormulaFault.{FormulaFault}
use Rattle.call_options.specs.declared.sizes.Sizes.{Sizes}
use Rattle.run_report.specs.Benches.{IsSummaryOf}
use Rattle.fault_kinds.specs.declared.refusal.Refusal.TheVariants as refusal
use Rattle.log_rules.specs.WholeLogs.{all_of}
use Rattle.batch_answers.specs.PassedOn.{Aim, asked_of, unknown_name, IsTrueSoFar}
use Rattle.log_answers.specs.declared.stop.StopCause.{StopCause}
use Rattle.log_answers.specs.declared.stop.StopCause.TheVariants as causes
use Rattle.log_answers.specs.declared.stop.Stop.{Stop}
use Rattle.log_answers.specs.declared.stop.Verdict.{Verdict}
use Rattle.call_promise.specs.Run.{made_by}

-- the summary of a bench of the log that is made
abbrev pub IsSummary : Aim → Sizes → List ℕ → Type 0
IsSummary aim sizes text =
    IsSummaryOf sizes (asked_of aim) (made_by sizes).header (made_by sizes).batches
    aim.watches text

-- the first name that the log lacks, if it lacks one
abbrev pub missing_name : Aim → Sizes → Option FormulaFault
missing_name aim sizes =
    unknown_name aim.node aim.names (made_by sizes).header

-- the summary was written, and this is the verdict
pub record IsBenchOf (aim : Aim) (sizes : Sizes) (text : List ℕ) (v : Verdict)
    : Type 0 where
  pub named : missing_name aim sizes ≡ None
  pub summary : IsSummary aim sizes text
  pub truth : (v.truth ≡ true) ↔ IsTrueSoFar aim (all_of (made_by sizes))
  pub batches : v.batches ≡ 1

-- a prefix of the summary was written
pub record IsBenchPart (aim : Aim) (sizes : Sizes) (text : List ℕ) (batches : ℕ)
    : Type 0 where
  pub named : missing_name aim sizes ≡ None
  pub summary : List ℕ
  pub is : IsSummary aim sizes summary
  pub part : IsPrefix text summary
  pub count : batches ≡ 1

abbrev pub BenchStops : StopCause → ℕ → Counts → Aim → Sizes → List ℕ → Type 0
BenchStops (causes.Refused (refusal.Formula f)) n faults aim sizes text =
    (missing_name aim sizes ≡ Some f) × (text ≡ []) × (n ≡ 0)
BenchStops (causes.Refused (refusal.Log f)) n faults aim sizes text = ⊥
BenchStops (causes.Refused (refusal.Import f)) n faults aim sizes text = ⊥
BenchStops (causes.Refused (refusal.Merge f)) n faults aim sizes text = ⊥
BenchStops causes.Write n faults aim sizes text =
    IsBenchPart aim sizes text n × Rose faults.before faults.after
BenchStops causes.Memory n faults aim sizes text = (text ≡ []) × (n ≡ 0)
BenchStops causes.Read n faults aim sizes text = ⊥

abbrev pub BenchesTo : Counts → Aim → Sizes → List ℕ → Result Verdict Stop → Type 0
BenchesTo faults aim sizes text (Ok v) = IsBenchOf aim sizes text v
BenchesTo faults aim sizes text (Err stop) =
    BenchStops stop.cause stop.batches faults aim sizes text

-- a bench was done
pub record HasMade (sink : Change) (aim : Aim) (sizes : Sizes) (result : Result Verdict Stop)
    : Type 0 where
  pub written : List ℕ
  pub wrote : Appends sink.before sink.after written
  pub later : sink.faults_before ≤ sink.faults_after
  pub to : BenchesTo (faults_of sink) aim sizes written result
