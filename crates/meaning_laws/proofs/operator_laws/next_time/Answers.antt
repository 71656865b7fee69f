use Rattle.meaning_laws.proofs.ClosureLemmas.{next_time_closed}
use Rattle.meaning_laws.proofs.operator_laws.next_time.Goals as goal

pub returns : goal.returns
returns g c = λ o k. next_time_closed o k g.A.SetOfCuts.has
