-- The line that tells of a run without a verdict.
use Rattle.std.specs.Prelude.{ℕ, List, [], ◌∷◌, ◌++◌, codes, Option, None, Some}
use Rattle.std.specs.Fmt.{decimal}
use Rattle.std.specs.Io.KnownBytes.{Appends}
use Rattle.pota_base.specs.Outside.{Rose, AppendsPrefix}
use Rattle.pota_base.specs.Changes.{Change}
use Rattle.event_log.specs.declared.item.LogFault.{LogFault}
use Rattle.rctl_grammar.specs.declared.fault.FormulaFault.{FormulaFault}
use Rattle.fault_kinds.specs.declared.merge.MergeFault.{MergeFault}
use Rattle.fault_kinds.specs.declared.import.ImportFault.{ImportFault}
use Rattle.fault_line.specs.FaultText.{formula_code_text, log_code_text}
use Rattle.fault_line.specs.FaultText.{import_code_text, merge_code_text}
use Rattle.fault_line.specs.declared.fault.Fault.{Fault}
use Rattle.fault_line.specs.declared.fault.Fault.TheVariants as fault

-- which words are taken
abbrev pub usage_text : List ℕ
usage_text =
    codes "usage: pota check FORMULA [--workers N] [--slice] [--witness] [--each-batch]"
    ++ codes " [--vclog] [--merged]"
    ++ codes " or pota bench FORMULA --seed N --procs N --events N [--workers N]"
    ++ codes " or pota certify FORMULA"

-- the byte of the formula, and what is wrong there
abbrev pub formula_text : FormulaFault → List ℕ
formula_text f = codes "formula byte "
    ++ (decimal f.place ++ (codes ": " ++ formula_code_text f.code))

-- the line of the log, and what is wrong there
abbrev pub log_text : LogFault → List ℕ
log_text f = codes "log line " ++ (decimal f.line ++ (codes ": " ++ log_code_text f.code))

-- the line of the text of two-line records, and what is wrong there
abbrev pub import_text : ImportFault → List ℕ
import_text f = codes "log line " ++ (decimal f.line ++ (codes ": " ++ import_code_text f.code))

-- the source and the line in it, and what is wrong there
abbrev pub merge_text : MergeFault → List ℕ
merge_text f = codes "log source " ++ (decimal f.source
    ++ (codes " line " ++ (decimal f.line ++ (codes ": " ++ merge_code_text f.code))))

abbrev pub cause_of : Fault → List ℕ
cause_of fault.Usage = usage_text
cause_of (fault.Formula f) = formula_text f
cause_of (fault.Log f) = log_text f
cause_of (fault.Import f) = import_text f
cause_of (fault.Merge f) = merge_text f
cause_of fault.Read = codes "read fault"
cause_of fault.Write = codes "write fault"
cause_of fault.Memory = codes "out of memory"

-- one line of the program for each run without a verdict
abbrev pub line_by : (program : List ℕ) → Option Fault → List ℕ
line_by program None = []
line_by program (Some f) = program ++ (codes ": " ++ (cause_of f ++ 10 ∷ []))

-- a sink that didn't fail has got the whole line, and in any case some front of it
pub record Told (sink : Change) (line : List ℕ) : Type 0 where
  pub whole : (Rose sink.faults_before sink.faults_after → ⊥) → Appends sink.before sink.after line
  pub part : AppendsPrefix sink.before sink.after line
