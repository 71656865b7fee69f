use Rattle.run_model.proofs.Orders.{past_least}
use Rattle.meaning_laws.proofs.order_laws.past_is_least.Goals as goal

pub returns : goal.returns
returns c = past_least
