use Rattle.std.proofs.Common.{min}
use Rattle.cut_lattice.proofs.Steps.{DoneBelow}
use Rattle.cut_lattice.proofs.cut.Cut.meet_into.Given as goal

abbrev pub invariant-loop-i : goal.invariant-loop-i
invariant-loop-i l = DoneBelow min l.fn.self l.fn.other l.other-inside.counts.items l.i
