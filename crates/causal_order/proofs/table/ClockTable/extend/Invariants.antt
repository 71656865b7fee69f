use Rattle.causal_order.proofs.Growing.{AddedSoFar}
use Rattle.causal_order.proofs.table.ClockTable.extend.Given as goal

abbrev pub invariant-loop-event : goal.invariant-loop-event
invariant-loop-event l = AddedSoFar l.fn.self l.events l.event-index l.self
