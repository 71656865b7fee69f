use Rattle.log_sources.proofs.Stepping as stepping
use Rattle.log_sources.proofs.laws.a_fault_stays.Goals as goal

pub returns : goal.returns
returns c = stepping.stays
