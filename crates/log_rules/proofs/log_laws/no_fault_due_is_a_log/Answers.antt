use Rattle.log_rules.proofs.Logs.{due_log}
use Rattle.log_rules.proofs.log_laws.no_fault_due_is_a_log.Goals as goal

pub returns : goal.returns
returns c = due_log
