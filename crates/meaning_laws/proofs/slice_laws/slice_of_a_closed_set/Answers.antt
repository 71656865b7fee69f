use Rattle.run_model.proofs.SliceLemmas.{exact_slice, one_bottom, one_row, stands_fits}
use Rattle.meaning_laws.proofs.slice_laws.slice_of_a_closed_set.Goals as goal

pub returns-clause-exact : goal.returns-clause-exact
returns-clause-exact g c = λ o. exact_slice o g.A.SetOfCuts.has

pub returns-clause-fits : goal.returns-clause-fits
returns-clause-fits g c = λ o. stands_fits o g.A.SetOfCuts.has

pub returns-clause-one_bottom : goal.returns-clause-one_bottom
returns-clause-one_bottom g c = λ o k. one_bottom o g.A.SetOfCuts.has k.consistent

pub returns-clause-one_row : goal.returns-clause-one_row
returns-clause-one_row g c = λ o k. one_row o g.A.SetOfCuts.has k.consistent
