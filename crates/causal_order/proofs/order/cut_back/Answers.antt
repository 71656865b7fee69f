use Rattle.std.proofs.Common.{arith}
use Rattle.causal_order.proofs.Growing.{cut_all}
use Rattle.causal_order.proofs.order.cut_back.Goals as goal

pub returns : goal.returns
returns c = λ before grown lens. cut_all _ before _ _ _ c.loop-process.invariant (omega (arith, c.requires.count, c.procs-process-end.ensures.count, c.loop-process-test.false)) grown lens
