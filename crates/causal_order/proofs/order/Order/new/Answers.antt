use Rattle.std.proofs.Common.{◌∙◌}
use Rattle.causal_order.proofs.Orders.{no_events_few, no_events_shape, no_events_ordered}
use Rattle.causal_order.proofs.order.Order.new.Goals as goal

pub lens-requires : goal.lens-requires
lens-requires c = no_events_few _ _ c.in_ok-table.ensures

pub new-requires-2 : goal.new-requires-2
new-requires-2 c = no_events_shape _ _ _ c.in_ok-table.ensures (c.deref.ensures.value ∙ c.in_ok-lens.ensures) c.requires.some c.requires.few

pub invariant_of-result : goal.invariant_of-result
invariant_of-result c = no_events_ordered _ _ _ _ c.in_ok-table.ensures (c.deref.ensures.value ∙ c.in_ok-lens.ensures) c.in_ok-shape.ensures c.requires.some c.requires.few
