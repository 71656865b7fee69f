use Rattle.certificate.proofs.Disjuncts.{conclusion_true}
use Rattle.certificate.proofs.laws.a_conclusion_is_the_truth.Goals as goal

pub returns : goal.returns
returns c = conclusion_true
