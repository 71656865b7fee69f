use Rattle.std.proofs.Common.{sym}
use Rattle.slice_graph.proofs.Words.{rows_are}
use Rattle.slice_graph.proofs.table.CutTable.len.Goals as goal

pub returns : goal.returns
returns c = sym (rows_are _ _ _ _ c.self.view_is)
