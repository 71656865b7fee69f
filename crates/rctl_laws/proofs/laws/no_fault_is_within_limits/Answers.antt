use Rattle.rctl_laws.proofs.Free.{no_fault}
use Rattle.rctl_laws.proofs.laws.no_fault_is_within_limits.Goals as goal

pub returns : goal.returns
returns c = no_fault
