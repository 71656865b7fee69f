use Rattle.std.proofs.Common.{◌≡◌, ◌++◌, replicate}
use Rattle.slice_graph.specs.Views.{no_row}
use Rattle.slice_graph.proofs.table.CutTable.push_few.Given as goal

abbrev pub invariant-loop-row : goal.invariant-loop-row
invariant-loop-row l = l.self ≡ record l.fn.self { rows = l.fn.self.rows ++ replicate l._row no_row }
