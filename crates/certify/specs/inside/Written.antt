-- What was written while the canonical lines of some nodes came.
use Rattle.std.specs.Prelude.{◌≡◌, ℕ, ◌≤◌, Bool, List, Option, Result, Ok, Err}
use Rattle.std.specs.Io.KnownBytes.{Appends}
use Rattle.pota_base.specs.declared.fault.Failed.{Failed}
use Rattle.pota_base.specs.Outside.{IsPrefix, Rose}
use Rattle.pota_base.specs.Changes.{Change}
use Rattle.certificate_lines.specs.declared.line.Line.{Line}
use Rattle.certificate_lines.specs.Spelling.{lines_text}
use Rattle.certificate_text.specs.Running.{certificate_lines}
use Rattle.certificate_next_line.specs.PassedOn.{NodesView, AreNodes}
use Rattle.certificate_next_line.specs.PassedOn.{IsWhole}

-- the text of a certificate of these lines
abbrev pub text_of : List ℕ → List Line → List ℕ
text_of formula lines = lines_text (certificate_lines formula lines)

-- the bytes are the front of each text of canonical lines up to the verdict's
abbrev pub IsFrontOf : NodesView → List ℕ → List ℕ → Type 0
IsFrontOf v formula part =
    (lines : List Line) (told : Bool) → AreNodes v → IsWhole v lines told
    → IsPrefix part (text_of formula lines)

-- all of the text was written, without a fault
pub record WroteAll (sink : Change) (formula : List ℕ) (v : NodesView) (told : Bool) : Type 0 where
  pub lines : List Line
  pub whole : IsWhole v lines told
  pub written : Appends sink.before sink.after (text_of formula lines)
  pub calm : sink.faults_after ≡ sink.faults_before

-- a front of it was written
pub record WroteFront (held held' : Option (List ℕ)) (formula : List ℕ) (v : NodesView)
    : Type 0 where
  pub part : List ℕ
  pub front : IsFrontOf v formula part
  pub written : Appends held held' part

-- a write failed, and a front of it was written
pub record WroteUntil (sink : Change) (formula : List ℕ) (v : NodesView) : Type 0 where
  pub later : sink.faults_before ≤ sink.faults_after
  pub rose : Rose sink.faults_before sink.faults_after
  pub part : WroteFront sink.before sink.after formula v

abbrev pub IsWritten : Result Bool Failed → Change → List ℕ → NodesView → Type 0
IsWritten (Ok told) sink formula v = WroteAll sink formula v told
IsWritten (Err failed) sink formula v = WroteUntil sink formula v
