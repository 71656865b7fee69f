use Rattle.vector_clock.proofs.FilledLogs.{log_is_a_run}
use Rattle.vector_clock.proofs.laws.no_fault_is_a_run.Goals as goal

pub returns : goal.returns
returns c = log_is_a_run
