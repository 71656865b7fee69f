-- Why there is no view: the status of each fault, and the line that tells of it.
use Rattle.std.specs.Prelude.{ℕ, List, [], ◌∷◌, ◌++◌, codes, Option, None, Some}
use Rattle.std.specs.Fmt.{decimal}
use Rattle.fault_line.specs.Lines as pota
use Rattle.fault_line.specs.declared.fault.Fault.TheVariants as shared
use Rattle.view_top.specs.declared.fault.Fault.{Fault}
use Rattle.view_top.specs.declared.fault.Fault.TheVariants as fault

-- the exit status of a fault
abbrev pub status_of : Fault → ℕ
status_of fault.Usage = 2
status_of (fault.Log f) = 4
status_of fault.Read = 5
status_of fault.Write = 6
status_of fault.Memory = 7
status_of fault.NoReport = 8
status_of (fault.Report f) = 8
status_of fault.TooLong = 8
status_of fault.OtherLog = 10

abbrev pub exit_status : Option Fault → ℕ
exit_status None = 0
exit_status (Some f) = status_of f

-- what is wrong; what may be wrong with `pota` too is said as there
abbrev pub cause_of : Fault → List ℕ
cause_of fault.Usage = codes "usage: pota_view text or pota_view svg, with --all or --last N"
cause_of (fault.Log f) = pota.cause_of (shared.Log f)
cause_of fault.Read = pota.cause_of shared.Read
cause_of fault.Write = pota.cause_of shared.Write
cause_of fault.Memory = pota.cause_of shared.Memory
cause_of fault.NoReport = codes "no report behind the log"
cause_of (fault.Report f) = codes "report line " ++ (decimal f.line ++ codes ": bad line")
cause_of fault.TooLong = codes "input too long"
cause_of fault.OtherLog = codes "report of another log"

abbrev pub program : List ℕ
program = codes "pota_view"

-- one line of the program, and none where there is a view
abbrev pub line_of : Option Fault → List ℕ
line_of None = []
line_of (Some f) = program ++ (codes ": " ++ (cause_of f ++ 10 ∷ []))
