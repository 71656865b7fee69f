use Rattle.meaning_laws.proofs.ClosureLemmas.{each_time_closed}
use Rattle.meaning_laws.proofs.OperatorLemmas.{each_time_by_rows}
use Rattle.meaning_laws.proofs.ResultSlices.{each_time_nowhere, each_time_slice}
use Rattle.meaning_laws.proofs.operator_laws.each_time.Goals as goal

pub returns-clause-by_rows : goal.returns-clause-by_rows
returns-clause-by_rows g c = λ o k. each_time_by_rows o k g.A.SetOfCuts.has

pub returns-clause-closed : goal.returns-clause-closed
returns-clause-closed g c = λ o k. each_time_closed o k g.A.SetOfCuts.has

pub returns-clause-slice : goal.returns-clause-slice
returns-clause-slice g c = λ o k. each_time_slice o k g.A.SetOfCuts.has

pub returns-clause-empty : goal.returns-clause-empty
returns-clause-empty g c = λ o k. each_time_nowhere o k g.A.SetOfCuts.has
