-- Which status goes with a fault, and how it came about.
use Rattle.pota_base.specs.declared.status.Status.{Status}
use Rattle.pota_base.specs.declared.status.Status.TheVariants as status
use Rattle.fault_kinds.specs.declared.refusal.Refusal.{Refusal}
use Rattle.fault_kinds.specs.declared.refusal.Refusal.TheVariants as refusal
use Rattle.fault_line.specs.declared.fault.Fault.{Fault}
use Rattle.fault_line.specs.declared.fault.Fault.TheVariants as fault

-- the status of a run that ended so
abbrev pub status_of : Fault → Status
status_of fault.Usage = status.Usage
status_of (fault.Formula f) = status.Formula
status_of (fault.Log f) = status.Log
status_of (fault.Import f) = status.Log
status_of (fault.Merge f) = status.Log
status_of fault.Read = status.ReadFault
status_of fault.Write = status.WriteFault
status_of fault.Memory = status.OutOfMemory

-- why a log is refused
abbrev pub fault_of_refusal : Refusal → Fault
fault_of_refusal (refusal.Formula f) = fault.Formula f
fault_of_refusal (refusal.Log f) = fault.Log f
fault_of_refusal (refusal.Import f) = fault.Import f
fault_of_refusal (refusal.Merge f) = fault.Merge f
