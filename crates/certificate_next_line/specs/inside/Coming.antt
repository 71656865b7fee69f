-- Inside: the line that is to come next in a certificate's rows.
use Rattle.std.specs.Prelude.{◌-◌, Bool, List, Option, None, Some}
use Rattle.certificate_lines.specs.declared.line.Line.{Line}
use Rattle.certificate_lines.specs.declared.line.Line.TheVariants.{Node, Row, Raise, Verdict}
use Rattle.certificate_table.specs.Begun.{BegunView, with_raise, with_row}
use Rattle.certificate_raises.specs.Canonical.{AreDoubts}
use Rattle.certificate_raises.specs.Canonical as canonical
use Rattle.certificate_canonical.specs.Canonical.{IsNextRow, IsNextRaise}

-- the line is the next one of these rows
abbrev pub IsNextOfRows : BegunView → Line → Type 0
IsNextOfRows rows (Node number) = ⊥
IsNextOfRows rows (Row row other) = IsNextRow rows row other
IsNextOfRows rows (Raise k x) = IsNextRaise rows k x
IsNextOfRows rows (Verdict told) = ⊥

-- the rows behind it
abbrev pub with_line : BegunView → Line → BegunView
with_line rows (Node number) = rows
with_line rows (Row row other) = with_row rows row other
with_line rows (Raise k x) = with_raise rows k x
with_line rows (Verdict told) = rows

-- where pulls are known that may fail, they are those of the present rows
abbrev pub AreDoubtsOf : Option (List Bool) → Option BegunView → Type 0
AreDoubtsOf None present = Unit {0}
AreDoubtsOf (Some doubts) None = Unit {0}
AreDoubtsOf (Some doubts) (Some rows) = AreDoubts rows doubts
