-- Inside: how far a log has been read and judged, piece by piece, and what has been written of it.
use Rattle.std.specs.Prelude.{◌≡◌, ℕ, ◌<◌, ◌≤◌, Bool, List, [], ◌++◌, length, Option, None}
use Rattle.std.specs.Prelude.{Result, Ok, Err}
use Rattle.std.specs.Io.KnownBytes.{Appends, Consumes, IsAtEnd}
use Rattle.pota_base.specs.Changes.{Behind, Change, behind_both, behind_of}
use Rattle.event_log.specs.declared.reader.Reader.{Reader}
use Rattle.event_log.specs.Faults.{fault_of}
use Rattle.event_log.specs.LogText.{onto}
use Rattle.event_log.specs.Reader.{HasRead}
use Rattle.fault_kinds.specs.declared.refusal.Refusal.{Refusal}
use Rattle.log_rules.specs.Passage.{Passage, passage_of}
use Rattle.log_rules.specs.Readings.{log_reading}
use Rattle.log_answers.specs.Asking.{Asking}
use Rattle.log_answers.specs.PassedOn.{Says}
use Rattle.log_answers.specs.PassedOn.{ReportedLog}
use Rattle.log_answers.specs.declared.stop.StopCause.TheVariants as causes
use Rattle.log_answers.specs.declared.stop.Stop.{Stop}
use Rattle.batch_answers.specs.declared.reading.Turn.{Turn}
use Rattle.batch_answers.specs.declared.reading.Turn.TheVariants as turn
use Rattle.log_answers.specs.Checking.{Stands}
use Rattle.log_answers.specs.Inputs.{TellsDueBy}
use Rattle.batch_answers.specs.Reading.{IsWhole, StopsAt, judgement_in}

-- what watches say, and the reader and the check of a log that is read
pub record Judging (X : Type 0) (P : X → Type 0) : Type 0 where
  pub says : Says X P
  pub reader : Reader
  pub check : ReportedLog X P

abbrev pub judging_of : {X : Type 0} {P : X → Type 0} → (says : Says X P) → (reader : Reader)
    → (check : ReportedLog X P) → Judging X P
judging_of says reader check = record { says = says; reader = reader; check = check }

-- these bytes were read and judged without a fault, and this text was written
pub record HasJudged {X : Type 0} {P : X → Type 0} (judging : Judging X P) (asking : Asking)
    (passage : Passage) : Type 0 where
  pub read : HasRead judging.reader (onto passage.read [])
  pub free : fault_of passage.read ≡ None
  pub stands : Stands judging.says asking.aim asking.each judging.check
      (judgement_in asking.aim passage.read) passage.written

-- this fault, or none, is due of the text of a log, and a stop behind such bytes, before the report
-- on the whole log
abbrev pub TellsDue : (asking : Asking) → (ended : Bool) → (passage : Passage) → Option Refusal → ℕ
    → Type 0
TellsDue asking ended passage why batches = TellsDueBy log_reading asking ended passage why batches

abbrev pub PieceTo : {X : Type 0} {P : X → Type 0} → Behind → Judging X P → Asking → Passage
    → Result Turn Stop → Type 0
PieceTo behind judging asking passage (Ok turn.More) = HasJudged judging asking passage
PieceTo behind judging asking passage (Ok turn.End) = ⊥
PieceTo behind judging asking passage (Err stop) =
    StopsAt stop.cause stop.batches behind asking passage

-- these are all bytes with the piece, behind this text
pub record TakesPiece {X : Type 0} {P : X → Type 0} (sink : Change) (judging : Judging X P)
    (asking : Asking) (passage : Passage) (result : Result Turn Stop) : Type 0 where
  pub written : List ℕ
  pub wrote : Appends sink.before sink.after written
  pub later : sink.faults_before ≤ sink.faults_after
  pub to : (left : Option (List ℕ)) (lf lf' : ℕ) → PieceTo
      (behind_of left lf lf' sink.faults_before sink.faults_after) judging asking
      (passage_of passage.read (passage.written ++ written)) result

abbrev pub Finishes : {X : Type 0} {P : X → Type 0} → ℕ → Says X P → Asking → ReportedLog X P
    → Passage → Result Turn Stop → Type 0
Finishes of says asking check passage (Ok turn.More) = ⊥
Finishes of says asking check passage (Ok turn.End) =
    IsWhole says asking.aim asking.each check passage.read passage.written
Finishes of says asking check passage (Err stop) =
    (left : Option (List ℕ)) (lf lf' : ℕ) → IsAtEnd left → StopsAt stop.cause stop.batches
    (behind_of left lf lf' of of) asking passage

abbrev pub TurnsTo : {X : Type 0} {P : X → Type 0} → Behind → Judging X P → Asking → Passage → List
    ℕ → Result Turn Stop → Type 0
TurnsTo behind judging asking passage read (Ok turn.More) =
    (0 < length read) × HasJudged judging asking (passage_of (passage.read ++ read) passage.written)
TurnsTo behind judging asking passage read (Ok turn.End) =
    IsAtEnd behind.rest × IsWhole judging.says asking.aim asking.each judging.check
    (passage.read ++ read) passage.written
TurnsTo behind judging asking passage read (Err stop) =
    StopsAt stop.cause stop.batches behind asking
    (passage_of (passage.read ++ read) passage.written)

pub record Turns {X : Type 0} {P : X → Type 0} (source sink : Change) (judging : Judging X P)
    (asking : Asking) (passage : Passage) (result : Result Turn Stop) : Type 0 where
  pub read : List ℕ
  pub written : List ℕ
  pub consumed : Consumes source.before source.after read
  pub wrote : Appends sink.before sink.after written
  pub log_later : source.faults_before ≤ source.faults_after
  pub out_later : sink.faults_before ≤ sink.faults_after
  pub to : TurnsTo (behind_both source sink) judging asking
      (passage_of passage.read (passage.written ++ written)) read
      result
