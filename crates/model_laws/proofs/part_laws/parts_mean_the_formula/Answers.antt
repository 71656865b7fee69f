use Rattle.model_laws.proofs.PartLists.{one_disjunct, parts_are_the_formula}
use Rattle.model_laws.proofs.part_laws.parts_mean_the_formula.Goals as goal

pub returns-clause-one_disjunct : goal.returns-clause-one_disjunct
returns-clause-one_disjunct c = one_disjunct

pub returns-clause-meaning : goal.returns-clause-meaning
returns-clause-meaning c = parts_are_the_formula
