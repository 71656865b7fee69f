use Rattle.std.proofs.Common.{max}
use Rattle.cut_lattice.proofs.Steps.{DoneBelow}
use Rattle.slice_graph.proofs.kept_rows.join_narrow.Given as goal

abbrev pub invariant-loop-process : goal.invariant-loop-process
invariant-loop-process l = DoneBelow max l.words l.fn.into l.into l.process
