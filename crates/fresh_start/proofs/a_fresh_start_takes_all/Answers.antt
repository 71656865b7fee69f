use Rattle.fresh_start.proofs.Taking.{takes_as_one, same_states}
use Rattle.fresh_start.proofs.a_fresh_start_takes_all.Goals as goal

pub returns-clause-takes : goal.returns-clause-takes
returns-clause-takes c = takes_as_one

pub returns-clause-states : goal.returns-clause-states
returns-clause-states c = same_states
