-- The line that tells of how a run ended.
use Rattle.std.specs.Prelude.{ℕ, List, codes, Option}
use Rattle.fault_line.specs.declared.fault.Fault.{Fault}
use Rattle.fault_line.specs.Lines.{line_by}

-- one line for each run without a verdict
abbrev pub line_of : Option Fault → List ℕ
line_of f = line_by (codes "pota") f
