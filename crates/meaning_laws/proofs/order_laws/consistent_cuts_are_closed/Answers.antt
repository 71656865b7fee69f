use Rattle.run_model.proofs.Orders.{final_greatest, has_past, initial_least, max_consistent, min_consistent}
use Rattle.meaning_laws.proofs.order_laws.consistent_cuts_are_closed.Goals as goal

pub returns-clause-minimum : goal.returns-clause-minimum
returns-clause-minimum c = min_consistent

pub returns-clause-maximum : goal.returns-clause-maximum
returns-clause-maximum c = max_consistent

pub returns-clause-least : goal.returns-clause-least
returns-clause-least c = initial_least

pub returns-clause-greatest : goal.returns-clause-greatest
returns-clause-greatest c = final_greatest

pub returns-clause-pasts : goal.returns-clause-pasts
returns-clause-pasts c = has_past
