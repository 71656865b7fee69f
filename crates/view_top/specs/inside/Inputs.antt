-- An input as it comes, and what is made of it once no more of it is read.
use Rattle.std.specs.Prelude.{◌≡◌, ◌⊎◌, ℕ, ◌<◌, ◌≤◌, Bool, true, false, List, [], length}
use Rattle.std.specs.Prelude.{Option, None, Some}
use Rattle.std.specs.Io.KnownBytes.{Appends}
use Rattle.pota_base.specs.Outside.{Rose, IsPrefix}
use Rattle.pota_base.specs.Changes.{Change, Counts, faults_of}
use Rattle.event_log.specs.declared.item.LogFault.{LogFault}
use Rattle.event_log.specs.declared.reader.Reader.{Reader}
use Rattle.event_log.specs.Faults.{fault_of, items_in}
use Rattle.event_log.specs.LogText.{onto}
use Rattle.event_log.specs.Reader.{HasRead}
use Rattle.event_log.specs.States.{StatesView}
use Rattle.input_reading.specs.declared.reading.End.{End}
use Rattle.input_reading.specs.declared.reading.End.TheVariants as end
use Rattle.fault_kinds.specs.declared.refusal.Refusal.TheVariants as refusal
use Rattle.log_rules.specs.Judgement.{Judgement, judged, waiting}
use Rattle.report.specs.declared.report.Report.{Report}
use Rattle.view_parts.specs.Series.{IsLastOf, IsFaultInAll}
use Rattle.view_parts.specs.Parts.{IsReportOf}
use Rattle.view_top.specs.declared.asking.View.{View}
use Rattle.view_top.specs.declared.fault.Fault.{Fault}
use Rattle.view_top.specs.declared.fault.Fault.TheVariants as fault
use Rattle.view_top.specs.declared.input.Input.{Input}
use Rattle.log_trace.specs.declared.trace.LogTrace.{LogTrace}
use Rattle.log_trace.specs.Judging.{without_formula, IsRefused, Keeps}
use Rattle.view_top.specs.Viewing.{most_bytes, report_in, log_in, log_due, IsViewOf, IsViewIn}
use Rattle.view_top.specs.Viewing.{LacksReport, HasNoReport, HasOtherReport}

-- ---- the log

-- the log in front of the input was read and judged without a fault so far, and this is the rest
pub record HasReadLog (reader : Reader) (kept : LogTrace) (input rest : List ℕ) : Type 0 where
  pub rest_is : rest ≡ report_in input
  pub read : HasRead reader (onto (log_in input) [])
  pub free : fault_of (log_in input) ≡ None
  pub keeps : Keeps kept (judged without_formula waiting (items_in (log_in input)))

-- this fault is due of it, whether the input has ended or not
abbrev pub IsDueInLog : List ℕ → LogFault → Type 0
IsDueInLog input f = (ended : Bool) → (log_due ended input).fault ≡ Some (refusal.Log f)

-- the items of a piece were all taken and its bytes have this fault if any, or it is one of an item
abbrev pub JudgesTo : LogTrace → Judgement → (fault told : Option LogFault) → Type 0
JudgesTo kept j fault None = Keeps kept j × (fault ≡ None)
JudgesTo kept j fault (Some f) = IsRefused j f ⊎ (Keeps kept j × (fault ≡ Some f))

-- ---- the input so far

-- these bytes came, without a fault of the log in them
pub record IsOpen (input : Input) (bytes : List ℕ) : Type 0 where
  pub log : HasReadLog input.reader input.log bytes input.behind
  pub none : input.fault ≡ None
  pub count : input.count ≡ length bytes
  pub few : length bytes < most_bytes

-- these bytes came, behind which none is read: a fault is due of the log, or they are too many
abbrev pub EndsBy : Input → Option LogFault → List ℕ → Type 0
EndsBy input None bytes =
    HasReadLog input.reader input.log bytes input.behind × (most_bytes ≤ length bytes)
EndsBy input (Some f) bytes = IsDueInLog bytes f

abbrev pub IsDone : Input → List ℕ → Type 0
IsDone input bytes = EndsBy input input.fault bytes

-- these bytes came, and no more is read for this reason
abbrev pub HasCome : End → Input → List ℕ → Type 0
HasCome end.Ended input bytes = IsOpen input bytes
HasCome end.Done input bytes = IsDone input bytes
HasCome end.Failed input bytes = IsOpen input bytes

-- ---- the report

-- this is the last report of the text, and one of the run
pub record IsReportIn (s : StatesView) (text : List ℕ) (r : Report) : Type 0 where
  pub text_is : IsLastOf text r
  pub fits : IsReportOf s r

-- the view of a run by the last report of the text
pub record IsViewBehind (asked : View) (s : StatesView) (text shown : List ℕ) : Type 0 where
  pub report : Report
  pub is : IsReportIn s text report
  pub view : IsViewOf asked s report shown

-- why the text has no last report that is one of the run
abbrev pub NoReportIn : StatesView → List ℕ → Fault → Type 0
NoReportIn s text fault.Usage = ⊥
NoReportIn s text (fault.Log f) = ⊥
NoReportIn s text fault.NoReport = text ≡ []
NoReportIn s text (fault.Report f) = (text ≡ [] → ⊥) × IsFaultInAll text f.line
NoReportIn s text fault.TooLong = ⊥
NoReportIn s text fault.OtherLog =
    (r : Report) × IsLastOf text r × (IsReportOf s r → ⊥)
NoReportIn s text fault.Read = ⊥
NoReportIn s text fault.Write = ⊥
NoReportIn s text fault.Memory = Unit {0}

-- ---- the view

-- why there is no view of an input that is read no further for this reason
abbrev pub NoViewIn : End → List ℕ → Fault → Type 0
NoViewIn e input fault.Usage = ⊥
NoViewIn e input (fault.Log f) =
    (ended : Bool) × (ended ≡ true → e ≡ end.Ended)
    × ((log_due ended input).fault ≡ Some (refusal.Log f))
NoViewIn e input fault.NoReport = (e ≡ end.Ended) × LacksReport input
NoViewIn e input (fault.Report f) = (e ≡ end.Ended) × HasNoReport input f.line
NoViewIn e input fault.TooLong =
    (e ≡ end.Done) × ((log_due false input).fault ≡ None) × (most_bytes ≤ length input)
NoViewIn e input fault.OtherLog = (e ≡ end.Ended) × HasOtherReport input
NoViewIn e input fault.Read = (e ≡ end.Failed) × ((log_due false input).fault ≡ None)
NoViewIn e input fault.Write = ⊥
NoViewIn e input fault.Memory = Unit {0}

-- the view was written, or a front of it, or nothing
abbrev pub WritesOf : View → End → List ℕ → (faults : Counts) → List ℕ → Option Fault → Type 0
WritesOf asked e input faults written None = (e ≡ end.Ended) × IsViewIn asked input written
WritesOf asked e input faults written (Some f) =
    ((written ≡ []) × NoViewIn e input f) ⊎ ((f ≡ fault.Write) × (e ≡ end.Ended) × (shown : List ℕ)
    × IsViewIn asked input shown × IsPrefix written shown × Rose faults.before faults.after)

-- what was written of an input that is read no further for this reason
pub record PutsView (asked : View) (e : End) (input : List ℕ) (sink : Change) (fault : Option Fault)
    : Type 0 where
  pub written : List ℕ
  pub wrote : Appends sink.before sink.after written
  pub to : WritesOf asked e input (faults_of sink) written fault
