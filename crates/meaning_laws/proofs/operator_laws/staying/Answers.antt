use Rattle.meaning_laws.proofs.ClosureLemmas.{staying_closed}
use Rattle.meaning_laws.proofs.OperatorLemmas.{pair_refutes, staying_by_rows}
use Rattle.meaning_laws.proofs.ResultSlices.{staying_nowhere, staying_slice}
use Rattle.meaning_laws.proofs.operator_laws.staying.Goals as goal

pub returns-clause-by_rows : goal.returns-clause-by_rows
returns-clause-by_rows g c = λ o. staying_by_rows o g.A.SetOfCuts.has

pub returns-clause-closed : goal.returns-clause-closed
returns-clause-closed g c = λ o k. staying_closed o k g.A.SetOfCuts.has

pub returns-clause-slice : goal.returns-clause-slice
returns-clause-slice g c = λ o. staying_slice o g.A.SetOfCuts.has

pub returns-clause-empty : goal.returns-clause-empty
returns-clause-empty g c = λ o. staying_nowhere o g.A.SetOfCuts.has

pub returns-clause-refuted_by_a_pair : goal.returns-clause-refuted_by_a_pair
returns-clause-refuted_by_a_pair g c = λ o. pair_refutes o g.A.SetOfCuts.has
