-- What is told of the bytes of an input.
use Rattle.std.specs.Prelude.{◌≡◌, ◌⊎◌, ℕ, ◌≤◌, List, [], ◌++◌}
use Rattle.std.specs.Io.KnownBytes.{Consumes, IsAtEnd}
use Rattle.pota_base.specs.Outside.{Rose}
use Rattle.pota_base.specs.Changes.{Change, Left, left_by}
use Rattle.certificate_lines.specs.declared.line.Line.{Line}
use Rattle.certificate_text.specs.declared.said.Stage.TheVariants as stage
use Rattle.certificate_text.specs.Taking.{VerifierView}
use Rattle.certificate_text.specs.Bytes.{Judged, RefusedAt}
use Rattle.certificate_input.specs.declared.told.Told.{Told}
use Rattle.certificate_input.specs.declared.told.Told.TheVariants as told
use Rattle.certificate_input.specs.Pieces.{LeadsOn, RefusedWithin}

-- no line was taken
pub record IsFresh {N : Type 0} (v : VerifierView N) : Type 0 where
  pub due : v.stage ≡ stage.Title
  pub none : v.lines ≡ 0

-- What is told of these bytes, behind the bytes of a line so far: the input has ended there, and
-- they are accepted or refused; or a line of them is refused; or none is, and a read failed.
abbrev pub IsTold : {N : Type 0} → (N → Line → N → Type 0) → Left → VerifierView N → List ℕ → List ℕ
    → Told → Type 0
IsTold follows left v line bytes (told.Accepted truth) =
    IsAtEnd left.rest × Judged follows bytes v line truth
IsTold follows left v line bytes (told.Refused n) =
    (IsAtEnd left.rest × RefusedAt follows bytes v line n) ⊎ RefusedWithin follows bytes v line n
IsTold follows left v line bytes told.Failed =
    Rose left.before left.after × LeadsOn follows bytes v line

-- some bytes were read behind those that came before, and this is told of all of them
pub record TellsBehind {N : Type 0} (follows : N → Line → N → Type 0) (source : Change)
    (v : VerifierView N) (line front : List ℕ) (t : Told) : Type 0 where
  pub read : List ℕ
  pub consumed : Consumes source.before source.after read
  pub later : source.faults_before ≤ source.faults_after
  pub is : IsTold follows (left_by source) v line (front ++ read) t

-- some bytes were read behind these, and this is told of the certificate that all of them are of
abbrev pub Tells : {N : Type 0} → (N → Line → N → Type 0) → Change → VerifierView N → List ℕ → Told
    → Type 0
Tells follows source v front t = TellsBehind follows source v [] front t
