-- What a run of the verifier promises.
use Rattle.std.specs.Prelude.{◌≡◌, ◌⊎◌, ◌↔◌, ℕ, ◌≤◌, Bool, true, List, []}
use Rattle.std.specs.Prelude.{Option, None, Some}
use Rattle.std.specs.Io.KnownBytes.{Appends, Consumes, IsAtEnd}
use Rattle.pota_base.specs.Outside.{Rose}
use Rattle.pota_base.specs.Changes.{Change, Left, left_by}
use Rattle.event_log.specs.LogEnd.{behind_log}
use Rattle.rctl_grammar.specs.declared.tree.Tree.{Tree}
use Rattle.fault_kinds.specs.declared.refusal.Refusal.{Refusal}
use Rattle.fault_kinds.specs.declared.refusal.Refusal.TheVariants as refusal
use Rattle.log_rules.specs.Judgement.{Prefix}
use Rattle.log_check.specs.Checked.{IsTrueSoFar}
use Rattle.log_part.specs.Fronts.{due_of_front}
use Rattle.log_part.specs.Reading.{IsCutShort}
use Rattle.certificate_text.specs.Bytes.{Judged, RefusedAt}
use Rattle.certificate_input.specs.Pieces.{RefusedWithin, NoneRefused}
use Rattle.certificate.specs.Following.{Follows}
use Rattle.fault_line.specs.declared.fault.Fault.{Fault}
use Rattle.fault_line.specs.declared.fault.Fault.TheVariants as fault
use Rattle.verify_answers.specs.declared.answer.Answer.{Answer}
use Rattle.verify_answers.specs.declared.answer.Answer.TheVariants.{Accepted, Refused, Faulty}
use Rattle.verify_answers.specs.declared.answer.Verified.{Verified}
use Rattle.verify_answers.specs.Telling.{IsTold, line_of}
use Rattle.verify_answers.specs.Asking.{AsksAbout, AskNothing, HasFormulaFault}
use Rattle.verify_top.specs.Asking.{aim_for, start_of}

-- ---- what stands in the input

-- the words are a formula of the class, and a log without a fault stands at the front of these
-- bytes; the certificate is what stands behind its `end` line
pub record HasLog (words : List (List ℕ)) (bytes : List ℕ) : Type 0 where
  pub tree : Tree
  pub asks : AsksAbout words tree
  pub log : Prefix
  pub whole : (due_of_front (aim_for tree) true bytes).whole ≡ Some log
  pub free : (due_of_front (aim_for tree) true bytes).fault ≡ None

abbrev pub certificate_of : List ℕ → List ℕ
certificate_of bytes = behind_log [] bytes

-- the input has ended, and its certificate is accepted. What it tells is the truth of the formula
-- at the initial cut of the log, whoever wrote it
pub record IsAccepted (left : Option (List ℕ)) (words : List (List ℕ)) (read : List ℕ)
    (told : Bool) : Type 0 where
  pub ended : IsAtEnd left
  pub of : HasLog words read
  pub judged : Judged Follows (certificate_of read) (start_of of.tree of.log) [] told
  pub truth : (told ≡ true) ↔ IsTrueSoFar (aim_for of.tree) of.log

-- the line of this number is refused: it was read, or the input has ended before it was complete
pub record IsRefused (left : Option (List ℕ)) (words : List (List ℕ)) (read : List ℕ) (n : ℕ)
    : Type 0 where
  pub of : HasLog words read
  pub refused : RefusedAt Follows (certificate_of read) (start_of of.tree of.log) [] n
  pub seen : IsAtEnd left
      ⊎ RefusedWithin Follows (certificate_of read) (start_of of.tree of.log) [] n

-- this fault is due of the log, of its bytes or because the input has ended
pub record IsLogRefused (left : Option (List ℕ)) (words : List (List ℕ)) (read : List ℕ)
    (why : Refusal) : Type 0 where
  pub tree : Tree
  pub asks : AsksAbout words tree
  pub ended : Bool
  pub at_end : ended ≡ true → IsAtEnd left
  pub due_is : (due_of_front (aim_for tree) ended read).fault ≡ Some why

-- no fault is due of a log that isn't whole
pub record EndsInLog (words : List (List ℕ)) (read : List ℕ) : Type 0 where
  pub tree : Tree
  pub asks : AsksAbout words tree
  pub short : IsCutShort (aim_for tree) read

-- no line of the certificate is refused
pub record EndsInCertificate (words : List (List ℕ)) (read : List ℕ) : Type 0 where
  pub of : HasLog words read
  pub free : NoneRefused Follows (certificate_of read) (start_of of.tree of.log)

-- ---- what an answer says of the words and the bytes that were read

abbrev pub IsFaulty : (left : Left) → List (List ℕ) → List ℕ → Fault → Type 0
IsFaulty left words read fault.Usage = AskNothing words × (read ≡ [])
IsFaulty left words read (fault.Formula f) =
    (HasFormulaFault words f × (read ≡ [])) ⊎ IsLogRefused left.rest words read (refusal.Formula f)
IsFaulty left words read (fault.Log f) = IsLogRefused left.rest words read (refusal.Log f)
IsFaulty left words read (fault.Import f) = IsLogRefused left.rest words read (refusal.Import f)
IsFaulty left words read (fault.Merge f) = IsLogRefused left.rest words read (refusal.Merge f)
IsFaulty left words read fault.Read =
    Rose left.before left.after × (EndsInLog words read ⊎ EndsInCertificate words read)
IsFaulty left words read fault.Write = ⊥
IsFaulty left words read fault.Memory = Unit {0}

abbrev pub Says : (left : Left) → List (List ℕ) → List ℕ → Answer → Type 0
Says left words read (Accepted told) = IsAccepted left.rest words read told
Says left words read (Refused n) = IsRefused left.rest words read n
Says left words read (Faulty f) = IsFaulty left words read f

-- some bytes were read, and this is the answer
pub record Answers (source : Change) (words : List (List ℕ)) (answer : Answer) : Type 0 where
  pub read : List ℕ
  pub consumed : Consumes source.before source.after read
  pub later : source.faults_before ≤ source.faults_after
  pub says : Says (left_by source) words read answer

-- ---- how an answer is told

-- a whole run: what was read and written in it, that no count fell, and the answer that it tells
pub record HasVerified (source sink : Change) (words : List (List ℕ)) (v : Verified) : Type 0 where
  pub answer : Answer
  pub answers : Answers source words answer
  pub later : sink.faults_before ≤ sink.faults_after
  pub told : IsTold sink answer v

-- where the certificate is accepted, this was read, and the truth of the formula at the initial cut
-- of the log was written
pub record HasToldTruth (left left' held held' : Option (List ℕ)) (words : List (List ℕ))
    : Type 0 where
  pub read : List ℕ
  pub consumed : Consumes left left' read
  pub told : Bool
  pub accepted : IsAccepted left' words read told
  pub wrote : Appends held held' (line_of (Accepted told))
