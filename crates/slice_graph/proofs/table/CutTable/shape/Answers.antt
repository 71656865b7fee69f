use Rattle.slice_graph.proofs.Words.{are_cuts}
use Rattle.slice_graph.proofs.table.CutTable.shape.Goals as goal

pub returns-clause-cuts : goal.returns-clause-cuts
returns-clause-cuts c = are_cuts _ _ _ _ _ c.self.view_is c.self.invariant
