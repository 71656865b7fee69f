use Rattle.asked_log.proofs.Headers.{observable}
use Rattle.asked_log.proofs.laws.read_logs_are_observed.Goals as goal

pub returns : goal.returns
returns c = observable
