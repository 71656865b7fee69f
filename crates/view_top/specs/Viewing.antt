-- What a run of the call says: which view of which log and report was written, or why there is
-- none.
use Rattle.std.specs.Prelude.{◌≡◌, ℕ, ◌-◌, ◌≤◌, Bool, true, false, List, [], length, take}
use Rattle.std.specs.Prelude.{Option, None, Some}
use Rattle.std.specs.Io.KnownBytes.{Appends, Consumes, IsAtEnd}
use Rattle.pota_base.specs.Outside.{Rose, IsPrefix}
use Rattle.pota_base.specs.Changes.{Behind, Change, behind_both}
use Rattle.event_log.specs.LogEnd.{behind_log}
use Rattle.event_log.specs.States.{StatesView}
use Rattle.fault_kinds.specs.declared.refusal.Refusal.TheVariants as refusal
use Rattle.log_rules.specs.Judgement.{Prefix, states_of}
use Rattle.log_rules.specs.Readings.{log_reading}
use Rattle.log_rules.specs.Due.{Due, due}
use Rattle.report.specs.declared.report.Report.{Report}
use Rattle.view_parts.specs.Series.{IsLastOf, IsFaultInAll}
use Rattle.view_parts.specs.Parts.{IsReportOf}
use Rattle.view_text.specs.Text.{view_text}
use Rattle.view_picture.specs.Picture.{IsPictureOf}
use Rattle.view_top.specs.declared.asking.View.{View}
use Rattle.view_top.specs.declared.asking.View.TheVariants as view
use Rattle.view_top.specs.declared.fault.Fault.{Fault}
use Rattle.view_top.specs.declared.fault.Fault.TheVariants as fault
use Rattle.view_top.specs.Asking.{view_asked}
use Rattle.log_trace.specs.Judging.{without_formula}

-- ---- the log and the report of an input

-- the text of the reports: what stands behind the `end` line of the log
abbrev pub report_in : List ℕ → List ℕ
report_in input = behind_log [] input

-- the text of the log: what stands before that
abbrev pub log_in : List ℕ → List ℕ
log_in input = take (length input - length (report_in input)) input

-- what is due of the log
abbrev pub log_due : (ended : Bool) → List ℕ → Due
log_due ended input = due log_reading without_formula ended (log_in input)

-- no fault is due of the log, and its processes have these states
pub record HasLog (input : List ℕ) (s : StatesView) : Type 0 where
  pub free : (log_due true input).fault ≡ None
  pub log : Prefix
  pub whole : (log_due true input).whole ≡ Some log
  pub states : s ≡ states_of log

-- the view of a run by a report of it
abbrev pub IsViewOf : View → StatesView → Report → List ℕ → Type 0
IsViewOf (view.Text e) s r shown = shown ≡ view_text s e r
IsViewOf (view.Svg e) s r shown = IsPictureOf s e r shown

-- the input is a log without a fault and the text of reports, of which the last is one of the log,
-- and this is the view of log and report
pub record IsViewIn (asked : View) (input shown : List ℕ) : Type 0 where
  pub states : StatesView
  pub log : HasLog input states
  pub report : Report
  pub text : IsLastOf (report_in input) report
  pub fits : IsReportOf states report
  pub view : IsViewOf asked states report shown

-- ---- why there is no view

-- an input that isn't read any further
abbrev pub most_bytes : ℕ
most_bytes = 1073741824

-- nothing stands behind the log
pub record LacksReport (input : List ℕ) : Type 0 where
  pub states : StatesView
  pub log : HasLog input states
  pub nothing : report_in input ≡ []

-- what stands behind the log is not one report or more, at this line
pub record HasNoReport (input : List ℕ) (line : ℕ) : Type 0 where
  pub states : StatesView
  pub log : HasLog input states
  pub something : report_in input ≡ [] → ⊥
  pub fault : IsFaultInAll (report_in input) line

-- the last report that stands behind the log is none of it
pub record HasOtherReport (input : List ℕ) : Type 0 where
  pub states : StatesView
  pub log : HasLog input states
  pub report : Report
  pub text : IsLastOf (report_in input) report
  pub other : IsReportOf states report → ⊥

-- the words ask for a view, the input was read to its end, and this is the view
pub record IsAnswer (left : Option (List ℕ)) (words : List (List ℕ)) (read shown : List ℕ)
    : Type 0 where
  pub asked : View
  pub asks : view_asked words ≡ Some asked
  pub ended : IsAtEnd left
  pub view : IsViewIn asked read shown

-- What an outcome says of the bytes that were read and written, by what the source has left, the
-- counts of faults before and after, and the words. Only a view is written, or where that failed
-- its front. A read fault comes behind the faults of the log's bytes, and before those of the
-- report, which is judged whole.
abbrev pub Says : Option Fault → (behind : Behind) → List (List ℕ) → List ℕ → List ℕ → Type 0
Says None behind words read written = IsAnswer behind.rest words read written
Says (Some fault.Usage) behind words read written =
    (written ≡ []) × (read ≡ []) × (view_asked words ≡ None)
Says (Some (fault.Log f)) behind words read written =
    (written ≡ []) × (ended : Bool) × (ended ≡ true → IsAtEnd behind.rest)
    × ((log_due ended read).fault ≡ Some (refusal.Log f))
Says (Some fault.NoReport) behind words read written =
    (written ≡ []) × IsAtEnd behind.rest × LacksReport read
Says (Some (fault.Report f)) behind words read written =
    (written ≡ []) × IsAtEnd behind.rest × HasNoReport read f.line
Says (Some fault.TooLong) behind words read written =
    (written ≡ []) × ((log_due false read).fault ≡ None) × (most_bytes ≤ length read)
Says (Some fault.OtherLog) behind words read written =
    (written ≡ []) × IsAtEnd behind.rest × HasOtherReport read
Says (Some fault.Read) behind words read written =
    (written ≡ []) × ((log_due false read).fault ≡ None) × Rose behind.source.before
    behind.source.after
Says (Some fault.Write) behind words read written =
    (shown : List ℕ) × IsAnswer behind.rest words read shown × IsPrefix written shown × Rose
    behind.sink.before behind.sink.after
Says (Some fault.Memory) behind words read written = written ≡ []

-- By the words, what the source has left, what the sink holds and their counts of faults, before
-- and after: these bytes were read and written, and the outcome says this of them.
pub record HasViewed (source sink : Change) (words : List (List ℕ)) (fault : Option Fault) : Type 0
  where
    pub read : List ℕ
    pub written : List ℕ
    pub consumed : Consumes source.before source.after read
    pub wrote : Appends sink.before sink.after written
    pub says : Says fault (behind_both source sink) words read written
