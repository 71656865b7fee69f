-- The bytes of a certificate up to the end of the input: those that are accepted, and the line at
-- which others are refused.
use Rattle.std.specs.Prelude.{◌≡◌, ◌⊎◌, ℕ, ◌+◌, ◌<◌, ◌≤◌, ◌==◌, Bool, true, false, List, [], ◌∷◌}
use Rattle.std.specs.Prelude.{◌++◌, length}
use Rattle.std.specs.List.{AllByRecursion}
use Rattle.pota_base.specs.Limits.{longest_certificate_line}
use Rattle.certificate_lines.specs.declared.line.Line.{Line}
use Rattle.certificate_lines.specs.Spelling.{lines_text}
use Rattle.certificate_text.specs.declared.said.Stage.{Stage}
use Rattle.certificate_text.specs.declared.said.Stage.TheVariants as stage
use Rattle.certificate_text.specs.Taking.{VerifierView, Justifies, IsUnjustified}

-- ---- lines

abbrev pub HasNoFeed : List ℕ → Type 0
HasNoFeed bytes = AllByRecursion (λ b. b == 10 ≡ false) bytes

-- no byte is a line feed, and there are at most 8,192
pub record IsLine (bytes : List ℕ) : Type 0 where
  pub one : HasNoFeed bytes
  pub short : length bytes ≤ longest_certificate_line

abbrev pub AreLines : List (List ℕ) → Type 0
AreLines lines = AllByRecursion IsLine lines

-- ---- what is accepted

-- the first where the test holds, else the other
abbrev pub pick : Bool → Type 0 → Type 0 → Type 0
pick true A B = A
pick false A B = B

-- accepted with this truth: from what the lines before left, with the bytes of a line so far, by
-- the bytes that are left
abbrev pub Judged : {N : Type 0} → (N → Line → N → Type 0) → List ℕ → VerifierView N
    → List ℕ → Bool → Type 0
Judged follows [] v line told = (v.stage ≡ stage.Accepted told) × (line ≡ [])
Judged follows (b ∷ bytes) v line told = pick (b == 10)
    ((after : VerifierView _) × Justifies follows v line after × Judged follows bytes after [] told)
    ((length line < longest_certificate_line) × Judged follows bytes v (line ++ b ∷ []) told)

-- ---- what is refused

abbrev pub IsAccepted : Stage → Type 0
IsAccepted at = (told : Bool) × (at ≡ stage.Accepted told)

-- no line is due any more, or the line is as long as a line may be
abbrev pub IsFull : {N : Type 0} → VerifierView N → List ℕ → Type 0
IsFull v line = IsAccepted v.stage ⊎ (length line ≡ longest_certificate_line)

-- Refused at the line of this number, from 1: it is not justified, a byte of it is one too many, or
-- the input ends before the text does.
abbrev pub RefusedAt : {N : Type 0} → (N → Line → N → Type 0) → List ℕ → VerifierView N
    → List ℕ → ℕ → Type 0
RefusedAt follows [] v line n =
    (n ≡ v.lines + 1) × (IsAccepted v.stage → line ≡ [] → ⊥)
RefusedAt follows (b ∷ bytes) v line n = pick (b == 10)
    (((n ≡ v.lines + 1) × IsUnjustified follows v line)
    ⊎ ((after : VerifierView _) × Justifies follows v line after
    × RefusedAt follows bytes after [] n))
    (((n ≡ v.lines + 1) × IsFull v line)
    ⊎ ((IsFull v line → ⊥) × RefusedAt follows bytes v (line ++ b ∷ []) n))

-- a line leaves one thing alone
abbrev pub OneFollows : {N : Type 0} → (N → Line → N → Type 0) → Type 0
OneFollows follows =
    (v : _) (said : Line) (a b : _) → follows v said a → follows v said b → a ≡ b

-- ---- what is refused, by lines

-- each line is justified, and they lead to this
abbrev pub LeadTo : {N : Type 0} → (N → Line → N → Type 0) → VerifierView N → List (List ℕ)
    → VerifierView N → Type 0
LeadTo follows v [] after = after ≡ v
LeadTo follows v (line ∷ lines) after =
    (mid : VerifierView _) × Justifies follows v line mid × LeadTo follows mid lines after

-- a whole line that nothing justifies stands at the front of these bytes
pub record HasWrongLine {N : Type 0} (follows : N → Line → N → Type 0) (v : VerifierView N)
    (bytes : List ℕ) : Type 0 where
  pub line : List ℕ
  pub more : List ℕ
  pub parts : bytes ≡ line ++ 10 ∷ more
  pub is_line : IsLine line
  pub wrong : IsUnjustified follows v line

-- the line at the front of these bytes has more than 8,192 bytes
pub record HasLongLine (bytes : List ℕ) : Type 0 where
  pub line : List ℕ
  pub more : List ℕ
  pub parts : bytes ≡ line ++ more
  pub one : HasNoFeed line
  pub long : length line ≡ longest_certificate_line + 1

-- a byte stands behind the last line
pub record GoesOn {N : Type 0} (v : VerifierView N) (bytes : List ℕ) : Type 0 where
  pub accepted : IsAccepted v.stage
  pub some : bytes ≡ [] → ⊥

-- the bytes end within a line, and a line is due
pub record IsCutOff {N : Type 0} (v : VerifierView N) (bytes : List ℕ) : Type 0 where
  pub due : IsAccepted v.stage → ⊥
  pub part : IsLine bytes

-- why the line at the front of these bytes is refused
abbrev pub IsWrong : {N : Type 0} → (N → Line → N → Type 0) → VerifierView N → List ℕ → Type 0
IsWrong follows v bytes =
    HasWrongLine follows v bytes ⊎ (HasLongLine bytes ⊎ (GoesOn v bytes ⊎ IsCutOff v bytes))

-- each of these lines is justified, and the line behind them is wrong
pub record IsRefusedBehind {N : Type 0} (follows : N → Line → N → Type 0) (v : VerifierView N)
    (bytes : List ℕ) (n : ℕ) : Type 0 where
  pub lines : List (List ℕ)
  pub rest : List ℕ
  pub after : VerifierView N
  pub parts : bytes ≡ lines_text lines ++ rest
  pub are : AreLines lines
  pub lead : LeadTo follows v lines after
  pub number : n ≡ v.lines + length lines + 1
  pub wrong : IsWrong follows after rest
