use Rattle.torn_runs.proofs.Beginnings.{upto_same, upto_order, lengths-upto, clock-upto, cuts_from, cuts_to}
use Rattle.torn_runs.proofs.beginnings_are_runs.Goals as goal

pub returns-clause-same : goal.returns-clause-same
returns-clause-same c = λ logged whole cut b k. upto_same logged whole cut b k.within

pub returns-clause-order : goal.returns-clause-order
returns-clause-order c = upto_order

pub returns-clause-events : goal.returns-clause-events
returns-clause-events c = λ o cut k. lengths-upto o cut k.shaped k.within

pub returns-clause-pasts : goal.returns-clause-pasts
returns-clause-pasts c = λ o cut i a k ev. clock-upto o cut i a k.shaped k.within ev

pub returns-clause-cuts : goal.returns-clause-cuts
returns-clause-cuts c = λ o cut d order k. (cuts_from o cut d k, λ m. cuts_to o cut d k m.0 m.1)
