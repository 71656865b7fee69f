use Rattle.log_rules.proofs.Dues.{due_bounded}
use Rattle.log_rules.proofs.due_laws.bytes_without_a_fault_are_few.Goals as goal

pub returns : goal.returns
returns c = due_bounded
