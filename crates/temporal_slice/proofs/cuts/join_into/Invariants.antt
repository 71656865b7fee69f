use Rattle.std.proofs.Common.{max}
use Rattle.cut_lattice.proofs.Steps.{DoneBelow}
use Rattle.temporal_slice.proofs.cuts.join_into.Given as goal

abbrev pub invariant-loop-process : goal.invariant-loop-process
invariant-loop-process l = DoneBelow max l.words l.fn.into l.into l.process
