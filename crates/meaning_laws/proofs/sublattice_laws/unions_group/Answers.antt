use Rattle.meaning_laws.proofs.JoinLemmas.{smallest_grouped}
use Rattle.meaning_laws.proofs.sublattice_laws.unions_group.Goals as goal

pub returns : goal.returns
returns g c = λ d. smallest_grouped g.A.SetOfCuts.has g.B.SetOfCuts.has g.D.SetOfCuts.has d
