use Rattle.std.proofs.Common.{arith, sym}
use Rattle.cut_lattice.proofs.Steps.{done_max}
use Rattle.slice_graph.proofs.kept_rows.join_narrow.Goals as goal

pub returns : goal.returns
returns c = done_max _ _ _ _ c.loop-process.invariant (sym c.requires) (omega arith)
