-- What a verifier tells of a line.
use Rattle.std.specs.Prelude.{◌≡◌, ℕ, ◌+◌, List}
use Rattle.certificate_lines.specs.declared.line.Line.{Line}
use Rattle.certificate_lines.specs.Spelling.{Spells}
use Rattle.certificate_text.specs.declared.said.Stage.{Stage}
use Rattle.certificate_text.specs.declared.said.Stage.TheVariants as stage
use Rattle.certificate_text.specs.Taking.{VerifierView, Justifies, IsUnjustified}
use Rattle.verifier.specs.declared.verifier.Checked.{Checked}
use Rattle.verifier.specs.declared.verifier.Checked.TheVariants as checked

-- what is told of a justified line, by what is due behind it
abbrev pub checked_as : Stage → Checked
checked_as (stage.Accepted told) = checked.Accepted told
checked_as due = checked.More

-- the number of a line that is refused: the next one, or that of one that was refused before
abbrev pub number_at : Stage → ℕ → ℕ
number_at (stage.Refused line) next = line
number_at due next = next

-- nothing justifies the line, and this is the number of the line that is refused
pub record Refuses {N : Type 0} (follows : N → Line → N → Type 0) (v : VerifierView N)
    (bytes : List ℕ) (number : ℕ) (after : VerifierView N) : Type 0 where
  pub unjustified : IsUnjustified follows v bytes
  pub number_is : number ≡ number_at v.stage (v.lines + 1)
  pub due : after.stage ≡ stage.Refused number

-- the line is justified and leaves this, or it is refused
abbrev pub IsChecked : {N : Type 0} → (N → Line → N → Type 0) → VerifierView N → List ℕ
    → Checked → VerifierView N → Type 0
IsChecked follows v bytes (checked.Refused number) after = Refuses follows v bytes number after
IsChecked follows v bytes told after =
    Justifies follows v bytes after × (told ≡ checked_as after.stage)

-- the bytes say nothing of nodes
abbrev pub IsNoLine : List ℕ → Type 0
IsNoLine bytes = (said : Line) → Spells bytes said → ⊥
