use Rattle.rctl_class.proofs.Meaning.{classed_means, one_is_regular}
use Rattle.rctl_class.proofs.laws.disjuncts_mean_the_formula.Goals as goal

pub returns-clause-meaning : goal.returns-clause-meaning
returns-clause-meaning c = classed_means

pub returns-clause-one : goal.returns-clause-one
returns-clause-one c = one_is_regular
