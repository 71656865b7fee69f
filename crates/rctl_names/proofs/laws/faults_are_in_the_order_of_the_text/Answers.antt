use Rattle.std.proofs.Common.{[]}
use Rattle.rctl_names.proofs.laws.faults_are_in_the_order_of_the_text.Goals as goal

pub returns : goal.returns
returns c = λ n ds is known. is.names.fault known []
