use Rattle.meaning_laws.proofs.JoinLemmas.{joined_stands}
use Rattle.meaning_laws.proofs.slice_laws.joined_slice.Goals as goal

pub returns : goal.returns
returns g c = λ o s t. joined_stands o s t g.A.SetOfCuts.has g.B.SetOfCuts.has
