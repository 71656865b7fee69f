-- What a certificate on a log that was checked is.
use Rattle.std.specs.Prelude.{◌⊎◌, ℕ, ◌≤◌, ◌++◌, List, [], Option}
use Rattle.std.specs.Io.KnownBytes.{Consumes, IsAtEnd}
use Rattle.pota_base.specs.Changes.{Change}
use Rattle.pota_base.specs.Outside.{Rose}
use Rattle.rctl_parts.specs.Pieces.{disjuncts_of}
use Rattle.part_pulls.specs.Observing.{clocks_seen}
use Rattle.log_check.specs.declared.checked.CheckedLog.{CheckedLog}
use Rattle.certificate_lines.specs.Spelling.{formula_line}
use Rattle.certificate_text.specs.Taking.{VerifierView, fresh}
use Rattle.certificate_text.specs.Bytes.{Judged, RefusedAt}
use Rattle.certificate_input.specs.Pieces.{RefusedWithin, NoneRefused}
use Rattle.certificate_nodes.specs.Nodes.{NodesView, fresh_nodes}
use Rattle.certificate.specs.Numbering.{plan_of}
use Rattle.certificate.specs.Following.{Follows}
use Rattle.fault_line.specs.declared.fault.Fault.TheVariants as fault
use Rattle.verify_answers.specs.declared.answer.Answer.{Answer}
use Rattle.verify_answers.specs.declared.answer.Answer.TheVariants.{Accepted, Refused, Faulty}

-- the formula's certificate on a log that was checked, before its first line
abbrev pub start_at : CheckedLog → VerifierView NodesView
start_at checked =
    fresh (formula_line checked.stated.text) (fresh_nodes (clocks_seen checked.seen)
    (plan_of checked.seen (disjuncts_of checked.disjuncts)))

-- what is told of the certificate that begins with these bytes
abbrev pub IsJudged : Option (List ℕ) → (lf lf' : ℕ) → VerifierView NodesView → List ℕ → Answer
    → Type 0
IsJudged left lf lf' start bytes (Accepted told) =
    IsAtEnd left × Judged Follows bytes start [] told
IsJudged left lf lf' start bytes (Refused n) =
    (IsAtEnd left × RefusedAt Follows bytes start [] n) ⊎ RefusedWithin Follows bytes start [] n
IsJudged left lf lf' start bytes (Faulty fault.Read) =
    Rose lf lf' × NoneRefused Follows bytes start
IsJudged left lf lf' start bytes (Faulty fault.Memory) = Unit {0}
IsJudged left lf lf' start bytes (Faulty f) = ⊥

-- some bytes were read behind these, and this is told of all of them
pub record HasJudged (source : Change) (start : VerifierView NodesView) (front : List ℕ)
    (answer : Answer) : Type 0 where
  pub read : List ℕ
  pub consumed : Consumes source.before source.after read
  pub later : source.faults_before ≤ source.faults_after
  pub is : IsJudged source.after source.faults_before source.faults_after start (front ++ read)
      answer

-- the certificate is accepted or refused
abbrev pub IsDecided : Answer → Type 0
IsDecided (Accepted told) = Unit {0}
IsDecided (Refused n) = Unit {0}
IsDecided (Faulty f) = ⊥
