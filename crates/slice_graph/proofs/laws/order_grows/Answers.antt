use Rattle.slice_graph.proofs.OrderGrowing.{order_count, order_each}
use Rattle.slice_graph.proofs.laws.order_grows.Goals as goal

pub returns-clause-count : goal.returns-clause-count
returns-clause-count c = order_count

pub returns-clause-each : goal.returns-clause-each
returns-clause-each c = order_each
