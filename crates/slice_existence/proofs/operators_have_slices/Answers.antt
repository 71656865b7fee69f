use Rattle.slice_existence.proofs.Members.{some_time_there, each_time_there, staying_there}
use Rattle.slice_existence.proofs.operators_have_slices.Goals as goal

pub returns-clause-some_time : goal.returns-clause-some_time
returns-clause-some_time g c = λ o order. some_time_there o order g.A.SetOfCuts.has

pub returns-clause-each_time : goal.returns-clause-each_time
returns-clause-each_time g c = λ o order. each_time_there o order g.A.SetOfCuts.has

pub returns-clause-staying : goal.returns-clause-staying
returns-clause-staying g c = λ o order. staying_there o order g.A.SetOfCuts.has
