use Rattle.std.proofs.Common.{take}
use Rattle.vector_clock.specs.inside.Nodes.{AreSends}
use Rattle.vector_clock.proofs.nodes.sends_in.Given as goal

abbrev pub invariant-loop-i : goal.invariant-loop-i
invariant-loop-i l = AreSends l.places (take l.i l.batch)
