use Rattle.torn_runs.proofs.Beginnings.{whole_to_cut, cut_to_whole}
use Rattle.torn_runs.proofs.Greatest.{greatest_is_cut, whole_stays}
use Rattle.torn_runs.proofs.the_greatest_is_consistent.Goals as goal

pub returns-clause-cuts : goal.returns-clause-cuts
returns-clause-cuts c = λ logged whole cut b order. (whole_to_cut logged whole cut b, cut_to_whole logged whole cut b order)

pub returns-clause-greatest : goal.returns-clause-greatest
returns-clause-greatest c = greatest_is_cut

pub returns-clause-stays : goal.returns-clause-stays
returns-clause-stays c = whole_stays
