use Rattle.temporal_slice.proofs.Sets.{some_time_of_set, each_time_of_set, staying_of_set}
use Rattle.temporal_slice.proofs.laws.operators_of_a_set.Goals as goal

pub returns-clause-some_time : goal.returns-clause-some_time
returns-clause-some_time g c = λ o. some_time_of_set o g.A.SetOfCuts.has

pub returns-clause-each_time : goal.returns-clause-each_time
returns-clause-each_time g c = λ o. each_time_of_set o g.A.SetOfCuts.has

pub returns-clause-staying : goal.returns-clause-staying
returns-clause-staying g c = λ o. staying_of_set o g.A.SetOfCuts.has
