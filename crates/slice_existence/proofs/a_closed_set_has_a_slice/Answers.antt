use Rattle.slice_existence.proofs.Members.{slice_there}
use Rattle.slice_existence.proofs.a_closed_set_has_a_slice.Goals as goal

pub returns : goal.returns
returns g c = λ o. slice_there o g.A.SetOfCuts.has
