-- The lines of a certificate, and the one spelling of each, without its line feed.
use Rattle.std.specs.Prelude.{◌≡◌, ℕ, ◌^◌, ◌<◌, true, false, List, [], ◌∷◌, ◌++◌}
use Rattle.std.specs.Prelude.{None, Some, codes}
use Rattle.std.specs.Fmt.{decimal}
use Rattle.certificate_lines.specs.declared.line.Line.{Line}
use Rattle.certificate_lines.specs.declared.line.Line.TheVariants.{Node, Row, Raise, Verdict}

-- the first line
abbrev pub title : List ℕ
title = codes "pota-cert 1"

-- the second line, of a formula's canonical text
abbrev pub formula_line : List ℕ → List ℕ
formula_line text = codes "formula " ++ text

-- the last line
abbrev pub end_line : List ℕ
end_line = codes "end"

-- what is said of the nodes
abbrev pub line_text : Line → List ℕ
line_text (Node number) = codes "node " ++ decimal number
line_text (Row row None) = codes "row " ++ decimal row
line_text (Row row (Some other)) =
    codes "row " ++ (decimal row ++ (codes " after " ++ decimal other))
line_text (Raise pull value) = codes "raise " ++ (decimal pull ++ (codes " " ++ decimal value))
line_text (Verdict true) = codes "verdict true"
line_text (Verdict false) = codes "verdict false"

-- each number has 32 bits
abbrev pub LineFits : Line → Type 0
LineFits (Node number) = number < 2 ^ 32
LineFits (Row row None) = row < 2 ^ 32
LineFits (Row row (Some other)) = (row < 2 ^ 32) × (other < 2 ^ 32)
LineFits (Raise pull value) = (pull < 2 ^ 32) × (value < 2 ^ 32)
LineFits (Verdict told) = Unit {0}

-- the bytes are the spelling of the line
pub record Spells (bytes : List ℕ) (line : Line) : Type 0 where
  pub fits : LineFits line
  pub text : bytes ≡ line_text line

-- lines one behind the other, each with its line feed
abbrev pub lines_text : List (List ℕ) → List ℕ
lines_text [] = []
lines_text (line ∷ lines) = line ++ 10 ∷ lines_text lines
