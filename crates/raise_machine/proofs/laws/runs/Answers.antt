use Rattle.raise_machine.proofs.Running.{run_within, run_bounds, seen_least, seen_stays}
use Rattle.raise_machine.proofs.laws.runs.Goals as goal

pub returns-clause-rises : goal.returns-clause-rises
returns-clause-rises c = run_within

pub returns-clause-bounds : goal.returns-clause-bounds
returns-clause-bounds c = run_bounds

pub returns-clause-settles : goal.returns-clause-settles
returns-clause-settles c = seen_least

pub returns-clause-stays : goal.returns-clause-stays
returns-clause-stays c = seen_stays
