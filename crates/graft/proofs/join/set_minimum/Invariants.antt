use Rattle.std.proofs.Common.{length}
use Rattle.graft.proofs.Joining.{MinBelow}
use Rattle.graft.proofs.join.set_minimum.Given as goal

abbrev pub invariant-loop-process : goal.invariant-loop-process
invariant-loop-process l = MinBelow l.left l.right (length l.left) l.process l.into
