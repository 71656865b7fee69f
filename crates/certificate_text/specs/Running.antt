-- A certificate as a run of lines that follow one another.
use Rattle.std.specs.Prelude.{◌≡◌, ℕ, Bool, List, [], ◌∷◌, ◌++◌, map, All}
use Rattle.certificate_lines.specs.declared.line.Line.{Line}
use Rattle.certificate_lines.specs.declared.line.Line.TheVariants.{Node, Row, Raise, Verdict}
use Rattle.certificate_lines.specs.Spelling.{LineFits, line_text, title, end_line}

-- each line follows from what the lines before it left
abbrev pub AllFollow : {N : Type 0} → (N → Line → N → Type 0) → N → List Line → N → Type 0
AllFollow follows v [] after = after ≡ v
AllFollow follows v (said ∷ rest) after =
    (mid : _) × follows v said mid × AllFollow follows mid rest after

-- the lines of a certificate, each in its spelling
abbrev pub certificate_lines : List ℕ → List Line → List (List ℕ)
certificate_lines formula lines = title ∷ formula ∷ (map line_text lines ++ end_line ∷ [])

-- the line is of a node: it is no verdict
abbrev pub IsOfNode : Line → Type 0
IsOfNode (Node number) = Unit {0}
IsOfNode (Row row other) = Unit {0}
IsOfNode (Raise pull value) = Unit {0}
IsOfNode (Verdict told) = ⊥

-- lines of nodes that follow one another, and then the verdict
pub record AreNodesAndVerdict {N : Type 0} (follows : N → Line → N → Type 0) (v : N)
    (lines : List Line) (told : Bool) : Type 0 where
  pub body : List Line
  pub of_nodes : All IsOfNode body
  pub fits : All LineFits body
  pub mid : N
  pub all : AllFollow follows v body mid
  pub after : N
  pub verdict : follows mid (Verdict told) after
  pub lines_are : lines ≡ body ++ Verdict told ∷ []

-- the texts are those of a run
abbrev pub IsCertificate : {N : Type 0} → (N → Line → N → Type 0) → List ℕ → N
    → List (List ℕ) → Bool → Type 0
IsCertificate follows formula v texts told =
    (lines : List Line) × AreNodesAndVerdict follows v lines told
    × (texts ≡ certificate_lines formula lines)
