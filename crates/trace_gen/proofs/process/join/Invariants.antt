use Rattle.std.proofs.Common.{max}
use Rattle.cut_lattice.proofs.Steps.{DoneBelow}
use Rattle.trace_gen.proofs.process.join.Given as goal

abbrev pub invariant-loop-i : goal.invariant-loop-i
invariant-loop-i l = DoneBelow max l.fn.other l.fn.clock l.clock l.i
