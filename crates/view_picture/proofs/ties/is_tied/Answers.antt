use Rattle.view_picture.proofs.Places.{of_clocks}
use Rattle.view_picture.proofs.ties.is_tied.Goals as goal

pub last_known-last-requires-clause-there : goal.last_known-last-requires-clause-there
last_known-last-requires-clause-there c = of_clocks c.order-order.result.now c.args.trace.now.states.events c.args.event c.order-order.ensures.order c.requires.there

pub is_between-requires-clause-there : goal.is_between-requires-clause-there
is_between-requires-clause-there c = of_clocks c.order-order.result.now c.args.trace.now.states.events c.args.event c.order-order.ensures.order c.requires.there
