use Rattle.vector_clock.specs.inside.Nodes.{AreStarts}
use Rattle.vector_clock.proofs.counts.starts_in.Given as goal

abbrev pub invariant-loop-i : goal.invariant-loop-i
invariant-loop-i l = AreStarts l.order l.process l.batch l.nodes l.i l.starts.items
