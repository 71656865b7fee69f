-- The log at the front of an input, checked as its bytes come.
-- ---- items
use Rattle.std.specs.Prelude.{◌≡◌, ℕ, ◌-◌, ◌≤◌, Bool, true, false, List, [], Option, Some, None}
use Rattle.std.specs.Io.KnownBytes.{Consumes, IsAtEnd}
use Rattle.pota_base.specs.Outside.{Rose}
use Rattle.pota_base.specs.Limits.{longest_kept}
use Rattle.pota_base.specs.Changes.{Change, Left, left_by}
use Rattle.event_log.specs.LogEnd.{is_whole, log_upto, behind_log}
use Rattle.event_log.specs.Faults.{first_fault, items}
use Rattle.event_log.specs.Reader.{HasRead}
use Rattle.fault_kinds.specs.declared.refusal.Refusal.{Refusal}
use Rattle.log_rules.specs.Judgement.{Prefix, Judgement, waiting, judged}
use Rattle.log_check.specs.declared.check.LogCheck.{LogCheck}
use Rattle.log_check.specs.Aims.{Says, Aim, rules_of}
use Rattle.log_check.specs.Checking.{IsCheckOf, HasClosed}
use Rattle.log_part.specs.declared.front.Front.{Front}
use Rattle.log_part.specs.declared.front.Front.TheVariants as front
use Rattle.log_part.specs.declared.part.LogPart.{LogPart}
use Rattle.log_part.specs.Fronts.{due_of_front}

-- ---- between two pieces

-- what the log's items in these bytes lead to
abbrev pub judged_front : Aim → List ℕ → Judgement
judged_front aim bytes = judged (rules_of aim) waiting (items (log_upto [] bytes))

-- the log goes on behind these bytes, and has no fault so far
pub record IsOpen {X : Type 0} {P : X → Type 0} (says : Says X P) (aim : Aim) (part : LogPart X P)
    (bytes : List ℕ) : Type 0 where
  pub read : HasRead part.reader (log_upto [] bytes)
  pub free : first_fault (log_upto [] bytes) ≡ None
  pub within : is_whole (log_upto [] bytes) ≡ false
  pub check : IsCheckOf says aim part.check (judged_front aim bytes)
  pub rest : part.rest ≡ []
  pub unrefused : part.refusal ≡ None

-- how many bytes more the log may have
abbrev pub room_of : {X : Type 0} {P : X → Type 0} → LogPart X P → ℕ
room_of part = longest_kept - part.reader.feeder.total

-- the log stands at the front of these bytes and has no fault; the rest stands behind it
pub record IsWholeLog {X : Type 0} {P : X → Type 0} (says : Says X P) (aim : Aim)
    (check : LogCheck X P) (rest bytes : List ℕ) : Type 0 where
  pub judgement : Judgement
  pub check_is : IsCheckOf says aim check judgement
  pub log : Prefix
  pub closed : HasClosed judgement log
  pub whole : (due_of_front aim true bytes).whole ≡ Some log
  pub free : (due_of_front aim true bytes).fault ≡ None
  pub over : is_whole (log_upto [] bytes) ≡ true
  pub rest_is : rest ≡ behind_log [] bytes

-- no byte behind these matters: a fault is due of the log, or it is whole
abbrev pub EndsLog : {X : Type 0} {P : X → Type 0} → Says X P → Aim → LogPart X P
    → Option Refusal → List ℕ → Type 0
EndsLog says aim part None bytes = IsWholeLog says aim part.check part.rest bytes
EndsLog says aim part (Some why) bytes = (due_of_front aim false bytes).fault ≡ Some why

abbrev pub IsDone : {X : Type 0} {P : X → Type 0} → Says X P → Aim → LogPart X P → List ℕ → Type 0
IsDone says aim part bytes = EndsLog says aim part part.refusal bytes

-- ---- the log

-- no fault is due of these bytes, and the log isn't whole
pub record IsCutShort (aim : Aim) (bytes : List ℕ) : Type 0 where
  pub free : (due_of_front aim false bytes).fault ≡ None
  pub within : is_whole (log_upto [] bytes) ≡ false

-- It is whole; or this fault is due of it, of its bytes or because the input has ended; or a read
-- failed within it.
abbrev pub IsFront : {X : Type 0} {P : X → Type 0} → Says X P → Aim → (left : Left) → List ℕ → Front
    X P → Type 0
IsFront says aim left bytes (front.Whole check rest) = IsWholeLog says aim check rest bytes
IsFront says aim left bytes (front.Refused why) =
    (ended : Bool) × (ended ≡ true → IsAtEnd left.rest)
    × ((due_of_front aim ended bytes).fault ≡ Some why)
IsFront says aim left bytes front.Failed = Rose left.before left.after × IsCutShort aim bytes

-- some bytes were read, and this is at their front
pub record HasReadFront {X : Type 0} {P : X → Type 0} (says : Says X P) (aim : Aim)
    (source : Change) (front : Front X P) : Type 0 where
  pub read : List ℕ
  pub consumed : Consumes source.before source.after read
  pub later : source.faults_before ≤ source.faults_after
  pub is : IsFront says aim (left_by source) read front
