use Rattle.counter_preds.proofs.Meaning.{at_most_means, at_least_means}
use Rattle.counter_preds.proofs.laws.differences_hold_where_they_are_true.Goals as goal

pub returns-clause-at_most : goal.returns-clause-at_most
returns-clause-at_most c = at_most_means

pub returns-clause-at_least : goal.returns-clause-at_least
returns-clause-at_least c = at_least_means
