use Rattle.meaning_laws.proofs.JoinLemmas.{smallest_closed, smallest_least, smallest_lists, smallest_of_closed}
use Rattle.run_model.specs.Sublattice.{given}
use Rattle.meaning_laws.proofs.sublattice_laws.smallest_sublattice.Goals as goal

pub returns-clause-closed : goal.returns-clause-closed
returns-clause-closed g c = λ o k h. smallest_closed o k g.A.SetOfCuts.has h

pub returns-clause-holds_the_set : goal.returns-clause-holds_the_set
returns-clause-holds_the_set g c = λ d h. given h

pub returns-clause-lies_in_closed_sets : goal.returns-clause-lies_in_closed_sets
returns-clause-lies_in_closed_sets g c = λ o. smallest_least o g.A.SetOfCuts.has g.B.SetOfCuts.has

pub returns-clause-of_a_closed_set : goal.returns-clause-of_a_closed_set
returns-clause-of_a_closed_set g c = λ o. smallest_of_closed o g.A.SetOfCuts.has

pub returns-clause-as_lists : goal.returns-clause-as_lists
returns-clause-as_lists g c = λ d. smallest_lists g.A.SetOfCuts.has d
