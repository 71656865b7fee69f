use Rattle.asked_list.proofs.Asked.{asked_in, made_alike}
use Rattle.asked_list.proofs.laws.ranges_are_asked.Goals as goal

pub returns-clause-asked : goal.returns-clause-asked
returns-clause-asked c = asked_in

pub returns-clause-made : goal.returns-clause-made
returns-clause-made c = made_alike
