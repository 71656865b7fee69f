-- Reading a line of a certificate: what it says of the nodes, or None where no such line is spelled
-- so.
use Rattle.std.specs.Prelude.{ℕ, ◌-◌, ◌^◌, ◌==◌, true, false, List, [], ◌∷◌, length, Option}
use Rattle.std.specs.Prelude.{None, Some, codes, if◌then◌else◌}
use Rattle.std.specs.Str.{bytes_eq}
use Rattle.pota_base.specs.Number.{◌>>=◌, number_at, whole}
use Rattle.log_lines.specs.Reading.{choose, text_at}
use Rattle.certificate_lines.specs.declared.line.Line.{Line}
use Rattle.certificate_lines.specs.declared.line.Line.TheVariants.{Node, Row, Raise, Verdict}

-- a number of 32 bits that is all of the bytes
abbrev pub number_in : List ℕ → Option ℕ
number_in bytes = whole (number_at (2 ^ 32 - 1) bytes)

-- `K X`
unfoldable pub raise_in : List ℕ → Option Line
raise_in bytes = do
  pull ← number_at (2 ^ 32 - 1) bytes
  rest ← text_at (32 ∷ []) pull.1
  value ← number_in rest
  Some (Raise pull.0 value)

-- ` after S`, behind the number of a row
unfoldable pub after_in : ℕ → List ℕ → Option Line
after_in row bytes = do
  rest ← text_at (codes " after ") bytes
  other ← number_in rest
  Some (Row row (Some other))

-- `R` or `R after S`
unfoldable pub row_in : List ℕ → Option Line
row_in bytes =
    number_at (2 ^ 32 - 1) bytes >>= λ row. if length row.1 == 0 then Some (Row row.0 None)
    else after_in row.0 row.1

-- `N`
unfoldable pub node_in : List ℕ → Option Line
node_in bytes = number_in bytes >>= λ number. Some (Node number)

abbrev pub verdict_in : List ℕ → Option Line
verdict_in line =
    if bytes_eq line (codes "verdict true") then Some (Verdict true)
    else if bytes_eq line (codes "verdict false") then Some (Verdict false)
    else None

-- by the first word of the line
unfoldable pub line_in : List ℕ → Option Line
line_in line =
    choose (text_at (codes "raise ") line) raise_in
    (choose (text_at (codes "row ") line) row_in
    (choose (text_at (codes "node ") line) node_in
    (verdict_in line)))
