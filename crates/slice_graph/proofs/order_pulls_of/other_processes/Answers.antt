use Rattle.slice_graph.specs.inside.PullLists.{other}
use Rattle.slice_graph.proofs.Pairs.{entry_more}
use Rattle.slice_graph.proofs.order_pulls_of.other_processes.Goals as goal

pub loop-index-preserved : goal.loop-index-preserved
loop-index-preserved c = entry_more (other c.args.process) c.loop-index.others c.push.new.self c.loop-index.index c.other.result c.loop-index.invariant c.in_ok-push.ensures.ok c.other.ensures
