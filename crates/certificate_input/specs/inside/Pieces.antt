-- What is kept between the pieces of a certificate, and what a call takes of one.
use Rattle.std.specs.Prelude.{◌≡◌, ℕ, ◌+◌, ◌^◌, ◌<◌, ◌≤◌, Bool, List, ◌++◌}
use Rattle.std.specs.Prelude.{length, Option, None, Some}
use Rattle.pota_base.specs.Limits.{longest_certificate_line}
use Rattle.certificate_lines.specs.declared.line.Line.{Line}
use Rattle.certificate_text.specs.declared.said.Stage.{Stage}
use Rattle.certificate_text.specs.declared.said.Stage.TheVariants as stage
use Rattle.certificate_text.specs.Taking.{VerifierView}
use Rattle.certificate_input.specs.Pieces.{Reaches, RefusedWithin}

-- ---- what is kept between pieces

-- the truth of an accepted text
abbrev pub accepted_at : Stage → Option Bool
accepted_at (stage.Accepted told) = Some told
accepted_at due = None

-- what the lines so far left, the bytes of the next one, how many lines there were, and the truth
-- where they are accepted
pub record InputView (N : Type 0) : Type 0 where
  pub text : VerifierView N
  pub line : List ℕ
  pub lines : ℕ
  pub accepted : Option Bool

-- the line so far is not too long, and the two others are those of the lines, which can be counted
pub record IsReady {N : Type 0} (v : InputView N) : Type 0 where
  pub short : length v.line ≤ longest_certificate_line
  pub lines : v.lines ≡ v.text.lines
  pub counted : v.lines < 2 ^ 64
  pub accepted : v.accepted ≡ accepted_at v.text.stage

-- these bytes were taken, or refused at the line of this number
abbrev pub IsTaken : {N : Type 0} → (N → Line → N → Type 0) → InputView N → List ℕ → Option ℕ
    → InputView N → Type 0
IsTaken follows v bytes None after =
    Reaches follows bytes v.text v.line after.text after.line × IsReady after
IsTaken follows v bytes (Some n) after = RefusedWithin follows bytes v.text v.line n

-- ---- the parts of a call

-- these bytes lie within the line, which is not too long with them
abbrev pub StaysInLine : {N : Type 0} → (N → Line → N → Type 0) → InputView N → List ℕ → Type 0
StaysInLine follows v bytes = Reaches follows bytes v.text v.line v.text (v.line ++ bytes)
    × (length v.line + length bytes ≤ longest_certificate_line)

-- one of these bytes is too many for the line, whatever comes behind them
abbrev pub IsOver : {N : Type 0} → (N → Line → N → Type 0) → InputView N → List ℕ → Type 0
IsOver follows v bytes =
    (more : List ℕ) → RefusedWithin follows (bytes ++ more) v.text v.line (v.text.lines + 1)
