use Rattle.std.proofs.Common.{◌≡◌}
use Rattle.slice_graph.specs.inside.Words.{times}
use Rattle.slice_graph.proofs.table.block_of.Given as goal

abbrev pub invariant-loop-row : goal.invariant-loop-row
invariant-loop-row l = l.block.items ≡ times l._row l.row
