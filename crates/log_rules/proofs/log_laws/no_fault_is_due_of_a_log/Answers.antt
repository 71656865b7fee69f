use Rattle.log_rules.proofs.Logs.{log_due}
use Rattle.log_rules.proofs.log_laws.no_fault_is_due_of_a_log.Goals as goal

pub returns : goal.returns
returns c = log_due
