-- A log that stands whole, in one batch: what its items lead to, and its report.
use Rattle.std.specs.Prelude.{◌≡◌, ℕ, ◌≤◌, ◌↔◌, true, false, List, [], ◌∷◌, Option, Some}
use Rattle.std.specs.Prelude.{Result, Ok, Err}
use Rattle.std.specs.Io.KnownBytes.{Appends}
use Rattle.pota_base.specs.Outside.{Rose}
use Rattle.pota_base.specs.Changes.{Change, Counts, faults_of}
use Rattle.event_log.specs.declared.log.Log.{Log}
use Rattle.event_log.specs.LogText.{log_items}
use Rattle.fault_kinds.specs.declared.refusal.Refusal.{Refusal}
use Rattle.log_rules.specs.Judgement.{Prefix, Judgement, waiting, refused, judged}
use Rattle.log_rules.specs.Due.{whole_of, batches_of}
use Rattle.reported_log.specs.Aims.{Says, Aim, rules_of, IsTrueSoFar}
use Rattle.reported_log.specs.Checking.{IsCheckOf, IsRefusedAs}
use Rattle.reported_log.specs.declared.reported.ReportedLog.{ReportedLog}
use Rattle.log_answers.specs.declared.stop.StopCause.{StopCause}
use Rattle.log_answers.specs.declared.stop.StopCause.TheVariants as causes
use Rattle.log_answers.specs.declared.stop.Stop.{Stop}
use Rattle.log_answers.specs.declared.stop.Verdict.{Verdict}
use Rattle.log_answers.specs.Checking.{AreReportsFor, HasPartOf}

-- what all items of a log lead to
abbrev pub judgement_on : Aim → Log → Judgement
judgement_on aim log = judged (rules_of aim) waiting (log_items log)

-- a stop before its end
abbrev pub TakingStops : StopCause → ℕ → Aim → Log → Type 0
TakingStops (causes.Refused r) n aim log = IsRefusedAs waiting (judgement_on aim log) n r
TakingStops causes.Memory n aim log = n ≡ 0
TakingStops causes.Write n aim log = ⊥
TakingStops causes.Read n aim log = ⊥

-- it was taken to its end, or not
abbrev pub TakesWhole : {T X : Type 0} {P : X → Type 0} → Says X P → Aim → ReportedLog X P → Log
    → Result T Stop → Type 0
TakesWhole says aim check log (Ok x) = IsCheckOf says aim check (judgement_on aim log)
TakesWhole says aim check log (Err stop) = TakingStops stop.cause stop.batches aim log

-- the log has no fault, its report is this text, and this is the verdict
pub record IsWholeVerdict (aim : Aim) (log : Log) (text : List ℕ) (v : Verdict) : Type 0 where
  pub whole : Prefix
  pub is : whole_of (judgement_on aim log) ≡ Some whole
  pub texts : AreReportsFor aim (whole ∷ []) text
  pub truth : (v.truth ≡ true) ↔ IsTrueSoFar aim whole
  pub count : v.batches ≡ batches_of (judgement_on aim log)

-- this is the log's first fault, and nothing was written
pub record IsWholeRefused (aim : Aim) (log : Log) (text : List ℕ) (why : Refusal) (batches : ℕ)
    : Type 0 where
  pub before : Option Prefix
  pub is : judgement_on aim log ≡ refused before why
  pub nothing : text ≡ []
  pub count : batches ≡ batches_of (judgement_on aim log)

-- the log has no fault, and a prefix of its report was written
pub record IsWholePart (aim : Aim) (log : Log) (text : List ℕ) (batches : ℕ) : Type 0 where
  pub whole : Prefix
  pub is : whole_of (judgement_on aim log) ≡ Some whole
  pub part : HasPartOf aim (whole ∷ []) text batches

abbrev pub WholeStops : StopCause → ℕ → Counts → Aim → Log → List ℕ → Type 0
WholeStops (causes.Refused r) n faults aim log text = IsWholeRefused aim log text r n
WholeStops causes.Write n faults aim log text =
    IsWholePart aim log text n × Rose faults.before faults.after
WholeStops causes.Memory n faults aim log text = (text ≡ []) × (n ≡ 0)
WholeStops causes.Read n faults aim log text = ⊥

abbrev pub WholeTo : Counts → Aim → Log → List ℕ → Result Verdict Stop → Type 0
WholeTo faults aim log text (Ok v) = IsWholeVerdict aim log text v
WholeTo faults aim log text (Err stop) = WholeStops stop.cause stop.batches faults aim log text

-- the log was checked, and its report written
pub record HasWhole (sink : Change) (aim : Aim) (log : Log) (result : Result Verdict Stop) : Type 0
  where
    pub written : List ℕ
    pub wrote : Appends sink.before sink.after written
    pub later : sink.faults_before ≤ sink.faults_after
    pub to : WholeTo (faults_of sink) aim log written result
