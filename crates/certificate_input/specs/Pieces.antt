-- The bytes of a certificate, piece by piece: where they lead as far as no line of them is refused,
-- and the refusal that no byte behind them changes.
use Rattle.std.specs.Prelude.{◌≡◌, ◌⊎◌, ℕ, ◌+◌, ◌==◌, List, [], ◌∷◌, ◌++◌}
use Rattle.certificate_lines.specs.declared.line.Line.{Line}
use Rattle.certificate_text.specs.Taking.{VerifierView, Justifies, IsUnjustified}
use Rattle.certificate_text.specs.Bytes.{pick, IsFull}

-- No line of these bytes is refused: from what the lines before left, with the bytes of a line so
-- far, they lead to this, with these bytes of a line.
abbrev pub Reaches : {N : Type 0} → (N → Line → N → Type 0) → List ℕ → VerifierView N
    → List ℕ → VerifierView N → List ℕ → Type 0
Reaches follows [] v line after rest = (after ≡ v) × (rest ≡ line)
Reaches follows (b ∷ bytes) v line after rest = pick (b == 10)
    ((mid : VerifierView _) × Justifies follows v line mid × Reaches follows bytes mid [] after
    rest)
    ((IsFull v line → ⊥) × Reaches follows bytes v (line ++ b ∷ []) after rest)

-- Refused at the line of this number within these bytes, whatever comes behind them: it is not
-- justified, or a byte of it is one too many.
abbrev pub RefusedWithin : {N : Type 0} → (N → Line → N → Type 0) → List ℕ → VerifierView N
    → List ℕ → ℕ → Type 0
RefusedWithin follows [] v line n = ⊥
RefusedWithin follows (b ∷ bytes) v line n = pick (b == 10)
    (((n ≡ v.lines + 1) × IsUnjustified follows v line)
    ⊎ ((after : VerifierView _) × Justifies follows v line after
    × RefusedWithin follows bytes after [] n))
    (((n ≡ v.lines + 1) × IsFull v line)
    ⊎ ((IsFull v line → ⊥) × RefusedWithin follows bytes v (line ++ b ∷ []) n))

-- no line of these bytes is refused, behind the bytes of a line so far
abbrev pub LeadsOn : {N : Type 0} → (N → Line → N → Type 0) → List ℕ → VerifierView N → List ℕ
    → Type 0
LeadsOn follows bytes v line =
    (after : VerifierView _) × (rest : List ℕ) × Reaches follows bytes v line after rest

-- no line of these bytes is refused
abbrev pub NoneRefused : {N : Type 0} → (N → Line → N → Type 0) → List ℕ → VerifierView N → Type 0
NoneRefused follows bytes v = LeadsOn follows bytes v []
