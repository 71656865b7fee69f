use Rattle.picture_laws.proofs.Order.{order_is_drawn, ties_are_needed}
use Rattle.picture_laws.proofs.Ties.{ties_are_listed}
use Rattle.picture_laws.proofs.the_order_is_drawn.Goals as goal

pub returns-clause-order : goal.returns-clause-order
returns-clause-order c = order_is_drawn

pub returns-clause-ties : goal.returns-clause-ties
returns-clause-ties c = ties_are_listed

pub returns-clause-needed : goal.returns-clause-needed
returns-clause-needed c = ties_are_needed
