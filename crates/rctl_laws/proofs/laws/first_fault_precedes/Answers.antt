use Rattle.rctl_laws.proofs.First.{first_precedes}
use Rattle.rctl_laws.proofs.laws.first_fault_precedes.Goals as goal

pub returns : goal.returns
returns c = first_precedes
