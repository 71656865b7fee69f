use Rattle.log_rules.proofs.Readings.{log_is_read}
use Rattle.log_rules.proofs.due_laws.a_log_is_read.Goals as goal

pub returns : goal.returns
returns c = log_is_read
