use Rattle.log_rules.proofs.Dues.{due_nothing}
use Rattle.log_rules.proofs.due_laws.nothing_is_due_at_first.Goals as goal

pub returns : goal.returns
returns c = due_nothing
