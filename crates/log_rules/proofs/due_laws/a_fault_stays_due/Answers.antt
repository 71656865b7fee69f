use Rattle.log_rules.proofs.Dues.{due_stays}
use Rattle.log_rules.proofs.due_laws.a_fault_stays_due.Goals as goal

pub returns : goal.returns
returns c = due_stays
