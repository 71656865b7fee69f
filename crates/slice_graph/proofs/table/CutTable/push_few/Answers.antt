use Rattle.slice_graph.proofs.Pushing.{none_more, none_more_yet}
use Rattle.slice_graph.proofs.table.CutTable.push_few.Goals as goal

pub loop-row-init : goal.loop-row-init
loop-row-init c = none_more_yet c.args.self.now

pub loop-row-preserved : goal.loop-row-preserved
loop-row-preserved c = none_more c.args.self.now c.loop-row.self _ c.loop-row._row c.loop-row.invariant c.in_ok-push_none.ensures.ok
