use Rattle.log_rules.proofs.Readings.{whole_is_read}
use Rattle.log_rules.proofs.due_laws.a_whole_log_is_read.Goals as goal

pub returns : goal.returns
returns c = whole_is_read
