-- A log that is checked item by item: what is known of it, and what its calls lead to.
-- ---- reports
use Rattle.std.specs.Prelude.{◌≡◌, ℕ, ◌≤◌, ◌↔◌, Bool, true, false, List, [], ◌∷◌, ◌++◌, Option}
use Rattle.std.specs.Prelude.{Result, Ok, Err}
use Rattle.std.specs.Io.KnownBytes.{Appends}
use Rattle.pota_base.specs.Outside.{Rose, IsPrefix}
use Rattle.pota_base.specs.Changes.{Change, Counts, faults_of}
use Rattle.report.specs.declared.report.Report.{Report}
use Rattle.report.specs.Spelling.{report_text}
use Rattle.log_rules.specs.SoFar.{counted}
use Rattle.call_options.specs.declared.sizes.Sizes.{Sizes}
use Rattle.run_report.specs.Benches.{IsSummaryOf}
use Rattle.fault_kinds.specs.declared.refusal.Refusal.{Refusal}
use Rattle.log_rules.specs.Judgement.{Prefix, Judgement, refused}
use Rattle.log_rules.specs.Due.{closed_of, batches_of}
use Rattle.log_judgement.specs.Texts.{AreReports}
use Rattle.reported_log.specs.Aims.{Says, Aim, asked_of, IsReportFor, IsTrueSoFar}
use Rattle.reported_log.specs.Checking.{IsCheckOf}
use Rattle.reported_log.specs.declared.reported.ReportedLog.{ReportedLog}
use Rattle.log_answers.specs.Asking.{Asking, Progress, Reached, Summing, progress_of, summing_of}
use Rattle.log_answers.specs.declared.stop.StopCause.{StopCause}
use Rattle.log_answers.specs.declared.stop.StopCause.TheVariants as causes
use Rattle.log_answers.specs.declared.stop.Stop.{Stop}
use Rattle.log_answers.specs.declared.stop.Verdict.{Verdict}

-- the log after each batch that has a report so far
abbrev pub closed_in : (each : Bool) → Judgement → List Prefix
closed_in false j = []
closed_in true j = closed_of j

-- the text is that of the reports on these
abbrev pub AreReportsFor : Aim → List Prefix → List ℕ → Type 0
AreReportsFor aim logs text = AreReports (asked_of aim) aim.watches logs text

-- the reports before that on one of these, and a prefix of that one, which has so many batches
pub record HasPartOf (aim : Aim) (logs : List Prefix) (text : List ℕ) (batches : ℕ)
    : Type 0 where
  pub before : List Prefix
  pub log : Prefix
  pub behind : List Prefix
  pub are : logs ≡ before ++ log ∷ behind
  pub whole : List ℕ
  pub texts : AreReportsFor aim before whole
  pub report : Report
  pub report_is : IsReportFor aim log report
  pub part : List ℕ
  pub part_of : IsPrefix part (report_text report)
  pub wrote : text ≡ whole ++ part
  pub count : batches ≡ counted log.batches

-- the reports on the first of these; no batch is told
pub record HasFrontOf (aim : Aim) (logs : List Prefix) (text : List ℕ) (batches : ℕ)
    : Type 0 where
  pub front : List Prefix
  pub rest : List Prefix
  pub are : logs ≡ front ++ rest
  pub texts : AreReportsFor aim front text
  pub count : batches ≡ 0

-- the report on this log could not be written behind those before, or there was no memory for it
abbrev pub ReportStops : StopCause → ℕ → Counts → Aim → Reached → List ℕ → Type 0
ReportStops causes.Write n faults aim reached text =
    HasPartOf aim (reached.before ++ reached.log ∷ []) text n × Rose faults.before faults.after
ReportStops causes.Memory n faults aim reached text = HasFrontOf aim reached.before text n
ReportStops (causes.Refused r) n faults aim reached text = ⊥
ReportStops causes.Read n faults aim reached text = ⊥

-- the report on this log was written, with its verdict, or not
abbrev pub ReportsTo : Counts → Aim → ℕ → Reached → List ℕ → Result Verdict Stop → Type 0
ReportsTo faults aim batches reached text (Ok v) =
    AreReportsFor aim (reached.before ++ reached.log ∷ []) text
    × ((v.truth ≡ true) ↔ IsTrueSoFar aim reached.log) × (v.batches ≡ batches)
ReportsTo faults aim batches reached text (Err stop) =
    ReportStops stop.cause stop.batches faults aim reached text

-- behind this text the report on this log was to be written
pub record Reports (sink : Change) (aim : Aim) (batches : ℕ) (reached : Reached) (text : List ℕ)
    (result : Result Verdict Stop) : Type 0 where
  pub written : List ℕ
  pub wrote : Appends sink.before sink.after written
  pub later : sink.faults_before ≤ sink.faults_after
  pub to : ReportsTo (faults_of sink) aim batches reached (text ++ written) result

-- ---- items

-- the check is at this judgement, and the text of the reports so far was written
pub record Stands {X : Type 0} {P : X → Type 0} (says : Says X P) (aim : Aim) (each : Bool)
    (check : ReportedLog X P) (j : Judgement) (text : List ℕ) : Type 0 where
  pub check_is : IsCheckOf says aim check j
  pub texts : AreReportsFor aim (closed_in each j) text

-- the judgement is this refusal, behind so many batches
pub record IsRefusedAt (aim : Aim) (each : Bool) (j : Judgement) (text : List ℕ)
    (why : Refusal) (batches : ℕ) : Type 0 where
  pub log : Option Prefix
  pub is : j ≡ refused log why
  pub texts : AreReportsFor aim (closed_in each j) text
  pub count : batches ≡ batches_of j

-- a stop at this judgement
abbrev pub StopsIn : StopCause → ℕ → Counts → Asking → Judgement → List ℕ → Type 0
StopsIn (causes.Refused r) n faults asking j text = IsRefusedAt asking.aim asking.each j text r n
StopsIn causes.Write n faults asking j text =
    HasPartOf asking.aim (closed_in asking.each j) text n × Rose faults.before faults.after
StopsIn causes.Memory n faults asking j text =
    HasFrontOf asking.aim (closed_in asking.each j) text n
StopsIn causes.Read n faults asking j text = ⊥

abbrev pub ItemsTo : {T X : Type 0} {P : X → Type 0} → Counts → Says X P → Asking → ReportedLog X P
    → Progress → Result T Stop → Type 0
ItemsTo faults says asking check progress (Ok x) =
    Stands says asking.aim asking.each check progress.judgement progress.text
ItemsTo faults says asking check progress (Err stop) =
    StopsIn stop.cause stop.batches faults asking progress.judgement progress.text

-- items led to this judgement, behind this text
pub record TakesItems {T X : Type 0} {P : X → Type 0} (sink : Change) (says : Says X P)
    (asking : Asking) (check : ReportedLog X P) (progress : Progress) (result : Result T Stop)
    : Type 0 where
  pub written : List ℕ
  pub wrote : Appends sink.before sink.after written
  pub later : sink.faults_before ≤ sink.faults_after
  pub to : ItemsTo (faults_of sink) says asking check
      (progress_of progress.judgement (progress.text ++ written)) result

-- ---- the summary of a bench

-- a bench shows the slice and no witnesses
pub record IsBenchAim (aim : Aim) : Type 0 where
  pub slice : aim.shown.slice ≡ true
  pub witness : aim.shown.witness ≡ false

-- a summary could not be written, or there was no memory for it
abbrev pub SummaryStops : StopCause → ℕ → Counts → Summing → ℕ → List ℕ → Type 0
SummaryStops causes.Write n faults summing batches text =
    (whole : List ℕ) × IsSummaryOf summing.sizes (asked_of summing.aim) summing.log.header
    summing.log.batches summing.aim.watches whole × IsPrefix text whole × (n ≡ batches) × Rose
    faults.before faults.after
SummaryStops causes.Memory n faults summing batches text = (text ≡ []) × (n ≡ 0)
SummaryStops (causes.Refused r) n faults summing batches text = ⊥
SummaryStops causes.Read n faults summing batches text = ⊥

abbrev pub SumsUpTo : Counts → Summing → ℕ → List ℕ → Result Verdict Stop → Type 0
SumsUpTo faults summing batches text (Ok v) =
    IsSummaryOf summing.sizes (asked_of summing.aim) summing.log.header summing.log.batches
    summing.aim.watches text × ((v.truth ≡ true) ↔ IsTrueSoFar summing.aim summing.log)
    × (v.batches ≡ batches)
SumsUpTo faults summing batches text (Err stop) =
    SummaryStops stop.cause stop.batches faults summing batches text

pub record SumsUp (sink : Change) (aim : Aim) (batches : ℕ) (log : Prefix) (sizes : Sizes)
    (result : Result Verdict Stop) : Type 0 where
  pub written : List ℕ
  pub wrote : Appends sink.before sink.after written
  pub later : sink.faults_before ≤ sink.faults_after
  pub to : SumsUpTo (faults_of sink) (summing_of aim log sizes) batches written result
