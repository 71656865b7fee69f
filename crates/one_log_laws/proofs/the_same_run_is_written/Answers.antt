use Rattle.one_log_laws.proofs.Back.{it_tells_of_the_same_run}
use Rattle.one_log_laws.proofs.the_same_run_is_written.Goals as goal

pub returns : goal.returns
returns c = it_tells_of_the_same_run
