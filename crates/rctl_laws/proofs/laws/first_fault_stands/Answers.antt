use Rattle.rctl_laws.proofs.Stands.{first_stands}
use Rattle.rctl_laws.proofs.laws.first_fault_stands.Goals as goal

pub returns : goal.returns
returns c = first_stands
