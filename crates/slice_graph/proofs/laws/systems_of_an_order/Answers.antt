use Rattle.slice_graph.proofs.OrderPulls.{has_order}
use Rattle.slice_graph.proofs.laws.systems_of_an_order.Goals as goal

pub returns : goal.returns
returns c = has_order
