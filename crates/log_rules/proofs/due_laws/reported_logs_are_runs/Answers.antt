use Rattle.log_rules.proofs.Orders.{all_ordered}
use Rattle.log_rules.proofs.due_laws.reported_logs_are_runs.Goals as goal

pub returns : goal.returns
returns c = all_ordered
