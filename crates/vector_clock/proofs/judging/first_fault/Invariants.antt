use Rattle.causal_order.specs.Growth.{with_clocks}
use Rattle.vector_clock.proofs.Judged.{Judged}
use Rattle.vector_clock.proofs.judging.first_fault.Given as goal

abbrev pub invariant-loop-event : goal.invariant-loop-event
invariant-loop-event l = Judged l.order (with_clocks l.order l.batch) l.messages l.batch l.judged.items l.event-index
