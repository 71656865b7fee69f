use Rattle.meaning_laws.proofs.DisjunctLemmas.{disjuncts_mean, regular_is_one}
use Rattle.meaning_laws.proofs.formula_laws.disjuncts_mean_the_formula.Goals as goal

pub returns-clause-meaning : goal.returns-clause-meaning
returns-clause-meaning c = disjuncts_mean

pub returns-clause-one : goal.returns-clause-one
returns-clause-one c = regular_is_one
