use Rattle.std.proofs.Common.{length, arith, ap}
use Rattle.causal_order.proofs.Growing.{length-lengths}
use Rattle.vector_clock.proofs.Joining.{joined_count}
use Rattle.vector_clock.proofs.joined.Joined.procs.Goals as goal

pub returns : goal.returns
returns c = omega (arith, c.procs.ensures.count, ap length c.shape.ensures.lens, length-lengths c.self.inside.admitted.now, joined_count _ _ _ c.self.view_is)
