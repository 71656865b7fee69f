use Rattle.std.specs.Prelude.{ℕ}
use Rattle.pota_base.specs.declared.status.Status.{Status}
use Rattle.pota_base.specs.declared.status.Status.TheVariants.{True, False, Usage, Formula, Log}
use Rattle.pota_base.specs.declared.status.Status.TheVariants.{ReadFault, WriteFault, OutOfMemory}

-- the exit status that stands for how a run ended
abbrev pub code_of : Status → ℕ
code_of True = 0
code_of False = 1
code_of Usage = 2
code_of Formula = 3
code_of Log = 4
code_of ReadFault = 5
code_of WriteFault = 6
code_of OutOfMemory = 7
