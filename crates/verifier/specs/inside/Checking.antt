-- The parts of a call: what a line says that is taken, and what stays as it was.
use Rattle.std.specs.Prelude.{◌≡◌, ℕ, List, Option, None, Some}
use Rattle.certificate_lines.specs.declared.line.Line.{Line}
use Rattle.certificate_lines.specs.Spelling.{Spells}
use Rattle.certificate_text.specs.declared.said.Stage.{Stage}
use Rattle.certificate_text.specs.Taking.{VerifierView, stage_after}

-- this is due behind the line exactly where it is the text
abbrev pub IsText : List ℕ → List ℕ → Stage → Option Stage → Type 0
IsText line text due None = line ≡ text → ⊥
IsText line text due (Some next) = (line ≡ text) × (next ≡ due)

-- the line says something that follows, and this is due behind it
pub record IsSaid {N : Type 0} (follows : N → Line → N → Type 0) (v : N) (bytes : List ℕ)
    (after : N) (due : Stage) : Type 0 where
  pub said : Line
  pub spells : Spells bytes said
  pub justified : follows v said after
  pub due_is : due ≡ stage_after said

-- whatever the line says does not follow
abbrev pub IsUnsaid : {N : Type 0} → (N → Line → N → Type 0) → N → List ℕ → Type 0
IsUnsaid follows v bytes =
    (said : Line) (after : _) → Spells bytes said → follows v said after → ⊥

-- the formula's line, what is due and the count are as they were
pub record KeepsText {N : Type 0} (v after : VerifierView N) : Type 0 where
  pub formula : after.formula ≡ v.formula
  pub stage : after.stage ≡ v.stage
  pub lines : after.lines ≡ v.lines
