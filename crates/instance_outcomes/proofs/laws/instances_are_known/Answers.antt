use Rattle.asked_instances.specs.Instances.{pairs_asked}
use Rattle.instance_outcomes.proofs.Tallying.{few, known}
use Rattle.instance_outcomes.proofs.laws.instances_are_known.Goals as goal

pub returns-clause-known : goal.returns-clause-known
returns-clause-known c = λ s is. known s (pairs_asked s) is

pub returns-clause-few : goal.returns-clause-few
returns-clause-few c = few
