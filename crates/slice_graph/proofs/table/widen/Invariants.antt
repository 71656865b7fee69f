use Rattle.std.proofs.Common.{ℕ}
use Rattle.cut_lattice.proofs.Steps.{DoneBelow}
use Rattle.slice_graph.proofs.table.widen.Given as goal

abbrev pub invariant-loop-i : goal.invariant-loop-i
invariant-loop-i l = DoneBelow (λ (x y : ℕ). x) l.from l.fn.into l.into l.i
