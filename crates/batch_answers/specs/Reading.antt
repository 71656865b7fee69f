-- A log that is checked as it is read: what is known between two reads, and what they lead to.
use Rattle.std.specs.Prelude.{◌≡◌, ℕ, ◌≤◌, Bool, false, List, [], None}
use Rattle.std.specs.Prelude.{Result, Ok, Err}
use Rattle.std.specs.Io.KnownBytes.{Appends, Consumes, IsAtEnd}
use Rattle.pota_base.specs.Outside.{Rose}
use Rattle.pota_base.specs.Changes.{Behind, Change, behind_both}
use Rattle.event_log.specs.Faults.{end_fault}
use Rattle.event_log.specs.LogText.{onto}
use Rattle.log_rules.specs.Passage.{Passage, passage_of}
use Rattle.log_rules.specs.Judgement.{Judgement}
use Rattle.log_rules.specs.Readings.{log_reading}
use Rattle.log_rules.specs.Due.{Due, judgement_of}
use Rattle.log_answers.specs.Asking.{Asking}
use Rattle.log_answers.specs.PassedOn.{Says, Aim, rules_of}
use Rattle.log_answers.specs.PassedOn.{ReportedLog}
use Rattle.log_rules.specs.Reported.{reported}
use Rattle.log_answers.specs.declared.stop.StopCause.{StopCause}
use Rattle.log_answers.specs.declared.stop.StopCause.TheVariants as causes
use Rattle.log_answers.specs.declared.stop.Stop.{Stop}
use Rattle.log_answers.specs.declared.stop.Verdict.{Verdict}
use Rattle.batch_answers.specs.declared.reading.Turn.TheVariants as turn
use Rattle.log_answers.specs.Checking.{Stands, HasPartOf}
use Rattle.log_answers.specs.Inputs.{due_by, StopsBy, HasCheckedBy}

-- what is due of the text of a log, and what its items lead to
abbrev pub due_in : Aim → (ended : Bool) → List ℕ → Due
due_in aim ended bytes = due_by log_reading aim ended bytes

abbrev pub judgement_in : Aim → List ℕ → Judgement
judgement_in aim bytes = judgement_of log_reading (rules_of aim) false bytes

-- the input has ended behind these bytes without a fault; the report on the whole log is not yet
-- written
pub record IsWhole {X : Type 0} {P : X → Type 0} (says : Says X P) (aim : Aim) (each : Bool)
    (check : ReportedLog X P)
    (bytes text : List ℕ) : Type 0 where
  pub free : end_fault (onto bytes []) ≡ None
  pub stands : Stands says aim each check (judgement_in aim bytes) text

abbrev pub StopsAt : StopCause → ℕ → Behind → Asking → Passage → Type 0
StopsAt (causes.Refused r) n behind asking passage =
    StopsBy log_reading (causes.Refused r) n behind asking passage
StopsAt causes.Read n behind asking passage =
    StopsBy log_reading causes.Read n behind asking passage
StopsAt causes.Write n behind asking passage =
    HasPartOf asking.aim (reported asking.each (due_in asking.aim false passage.read))
    passage.written n × Rose behind.sink.before behind.sink.after
StopsAt causes.Memory n behind asking passage =
    StopsBy log_reading causes.Memory n behind asking passage

-- ---- one piece and the end

-- ---- one turn of reading

-- ---- the whole log

abbrev pub ReadsTo : {T X : Type 0} {P : X → Type 0} → Behind → Says X P → Asking → ReportedLog X P
    → Passage → Result T Stop → Type 0
ReadsTo behind says asking check passage (Ok x) =
    IsAtEnd behind.rest × IsWhole says asking.aim asking.each check passage.read passage.written
ReadsTo behind says asking check passage (Err stop) =
    StopsAt stop.cause stop.batches behind asking passage

-- the log was read, but for the report on the whole of it
pub record HasReadLog {T X : Type 0} {P : X → Type 0} (source sink : Change) (says : Says X P)
    (asking : Asking) (check : ReportedLog X P) (result : Result T Stop) : Type 0 where
  pub read : List ℕ
  pub written : List ℕ
  pub consumed : Consumes source.before source.after read
  pub wrote : Appends sink.before sink.after written
  pub log_later : source.faults_before ≤ source.faults_after
  pub out_later : sink.faults_before ≤ sink.faults_after
  pub to : ReadsTo (behind_both source sink) says asking check (passage_of read written) result

-- ---- the text and its report

-- the text of a log was read and checked
abbrev pub HasChecked : (source sink : Change) → Aim → (each : Bool) → Result Verdict Stop → Type 0
HasChecked source sink aim each result = HasCheckedBy log_reading source sink aim each result
