use Rattle.torn_runs.proofs.Greatest.{greatest_one, greatest_there}
use Rattle.torn_runs.proofs.the_greatest_is_one.Goals as goal

pub returns-clause-there : goal.returns-clause-there
returns-clause-there c = greatest_there

pub returns-clause-one : goal.returns-clause-one
returns-clause-one c = greatest_one
