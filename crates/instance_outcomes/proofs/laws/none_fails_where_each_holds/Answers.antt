use Rattle.instance_outcomes.proofs.Tallying.{none_fails}
use Rattle.instance_outcomes.proofs.laws.none_fails_where_each_holds.Goals as goal

pub returns : goal.returns
returns c = none_fails
