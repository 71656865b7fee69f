-- Inside: the line that is written of a fault of the report.
use Rattle.std.specs.Prelude.{ℕ, List, Some}
use Rattle.view_top.specs.declared.fault.Fault.TheVariants as fault
use Rattle.view_top.specs.Faults.{line_of}

-- the line of a fault of the report
abbrev pub report_line : (line : ℕ) → List ℕ
report_line line = line_of (Some (fault.Report (record { line = line })))
