use Rattle.event_log.proofs.WellFormed.{fault_free_log}
use Rattle.event_log.proofs.laws.no_fault_is_a_log.Goals as goal

pub returns : goal.returns
returns c = fault_free_log
