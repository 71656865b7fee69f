use Rattle.std.proofs.Common.{◌≡◌, ◌*◌, ◌++◌, replicate}
use Rattle.slice_graph.specs.Views.{no_row}
use Rattle.slice_graph.specs.inside.Words.{block_rows}
use Rattle.slice_graph.proofs.table.CutTable.push_blocks.Given as goal

abbrev pub invariant-loop-block : goal.invariant-loop-block
invariant-loop-block l = l.self ≡ record l.fn.self { rows = l.fn.self.rows ++ replicate (l._block * block_rows) no_row }
