-- An input that is read and checked, however it is read: what its text, its verdict or its stop
-- says of the bytes that were read.
use Rattle.std.specs.Prelude.{◌≡◌, ℕ, ◌≤◌, ◌↔◌, Bool, true, false, List, Option, Some, None}
use Rattle.std.specs.Prelude.{Result, Ok, Err}
use Rattle.std.specs.Io.KnownBytes.{Appends, Consumes, IsAtEnd}
use Rattle.pota_base.specs.Outside.{Rose}
use Rattle.pota_base.specs.Changes.{Behind, Change, behind_both}
use Rattle.fault_kinds.specs.declared.refusal.Refusal.{Refusal}
use Rattle.log_rules.specs.Passage.{Passage, passage_of}
use Rattle.log_rules.specs.Judgement.{Prefix}
use Rattle.log_rules.specs.Readings.{Reading}
use Rattle.log_rules.specs.Due.{Due, due}
use Rattle.log_rules.specs.Reported.{reported}
use Rattle.reported_log.specs.Aims.{Aim, rules_of, IsTrueSoFar}
use Rattle.log_answers.specs.Asking.{Asking, asking_of}
use Rattle.log_answers.specs.declared.stop.StopCause.{StopCause}
use Rattle.log_answers.specs.declared.stop.StopCause.TheVariants as causes
use Rattle.log_answers.specs.declared.stop.Stop.{Stop}
use Rattle.log_answers.specs.declared.stop.Verdict.{Verdict}
use Rattle.log_answers.specs.Checking.{AreReportsFor, HasPartOf, HasFrontOf}

-- what is due of these bytes as they are read so
abbrev pub due_by : Reading → Aim → (ended : Bool) → List ℕ → Due
due_by reading aim ended bytes = due reading (rules_of aim) ended bytes

-- this fault, or none, is due of the bytes, with the text and so many batches
pub record TellsDueBy (reading : Reading) (asking : Asking) (ended : Bool) (passage : Passage)
    (why : Option Refusal) (batches : ℕ) : Type 0 where
  pub fault : (due_by reading asking.aim ended passage.read).fault ≡ why
  pub count : batches ≡ (due_by reading asking.aim ended passage.read).batches
  pub texts : AreReportsFor asking.aim
      (reported asking.each (due_by reading asking.aim ended passage.read)) passage.written

-- a stop behind these bytes, with this text written
abbrev pub StopsBy : Reading → StopCause → ℕ → Behind → Asking → Passage → Type 0
StopsBy reading (causes.Refused r) n behind asking passage =
    (ended : Bool) × (ended ≡ true → IsAtEnd behind.rest) × TellsDueBy reading asking ended passage
    (Some r) n
StopsBy reading causes.Read n behind asking passage =
    TellsDueBy reading asking false passage None n × Rose behind.source.before behind.source.after
StopsBy reading causes.Write n behind asking passage =
    (ended : Bool) × (ended ≡ true → IsAtEnd behind.rest) × HasPartOf asking.aim
    (reported asking.each (due_by reading asking.aim ended passage.read)) passage.written n × Rose
    behind.sink.before behind.sink.after
StopsBy reading causes.Memory n behind asking passage =
    HasFrontOf asking.aim (reported asking.each (due_by reading asking.aim false passage.read))
    passage.written n

-- the verdict on a log without a fault, whose reports were written
pub record IsVerdictBy (reading : Reading) (aim : Aim) (each : Bool) (bytes text : List ℕ)
    (v : Verdict) : Type 0 where
  pub told : TellsDueBy reading (asking_of aim each) true (passage_of bytes text) None v.batches
  pub log : Prefix
  pub whole : (due_by reading aim true bytes).whole ≡ Some log
  pub truth : (v.truth ≡ true) ↔ IsTrueSoFar aim log

abbrev pub ChecksBy : Reading → Behind → Asking → Passage → Result Verdict Stop → Type 0
ChecksBy reading behind asking passage (Ok v) =
    IsAtEnd behind.rest × IsVerdictBy reading asking.aim asking.each passage.read passage.written v
ChecksBy reading behind asking passage (Err stop) =
    StopsBy reading stop.cause stop.batches behind asking passage

-- the input was read and checked
pub record HasCheckedBy (reading : Reading) (source sink : Change) (aim : Aim) (each : Bool)
    (result : Result Verdict Stop) : Type 0 where
  pub read : List ℕ
  pub written : List ℕ
  pub consumed : Consumes source.before source.after read
  pub wrote : Appends sink.before sink.after written
  pub log_later : source.faults_before ≤ source.faults_after
  pub out_later : sink.faults_before ≤ sink.faults_after
  pub to : ChecksBy reading (behind_both source sink) (asking_of aim each) (passage_of read written)
      result
