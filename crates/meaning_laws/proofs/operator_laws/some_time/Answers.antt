use Rattle.meaning_laws.proofs.ClosureLemmas.{some_time_closed}
use Rattle.meaning_laws.proofs.OperatorLemmas.{some_time_within}
use Rattle.meaning_laws.proofs.ResultSlices.{some_time_nowhere, some_time_slice}
use Rattle.meaning_laws.proofs.operator_laws.some_time.Goals as goal

pub returns-clause-within_the_greatest : goal.returns-clause-within_the_greatest
returns-clause-within_the_greatest g c = λ o k l. some_time_within o k g.A.SetOfCuts.has l.consistent

pub returns-clause-closed : goal.returns-clause-closed
returns-clause-closed g c = λ o k. some_time_closed o k g.A.SetOfCuts.has

pub returns-clause-slice : goal.returns-clause-slice
returns-clause-slice g c = λ o k l. some_time_slice o k g.A.SetOfCuts.has l.consistent

pub returns-clause-empty : goal.returns-clause-empty
returns-clause-empty g c = λ o. some_time_nowhere o g.A.SetOfCuts.has
