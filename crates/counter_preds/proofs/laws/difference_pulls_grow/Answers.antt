use Rattle.counter_preds.proofs.Growing.{at_most_grows, at_least_grows}
use Rattle.counter_preds.proofs.laws.difference_pulls_grow.Goals as goal

pub returns-clause-at_most : goal.returns-clause-at_most
returns-clause-at_most c = at_most_grows

pub returns-clause-at_least : goal.returns-clause-at_least
returns-clause-at_least c = at_least_grows
