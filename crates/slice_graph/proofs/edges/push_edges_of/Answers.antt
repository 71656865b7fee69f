use Rattle.std.proofs.Common.{arith, map}
use Rattle.slice_graph.specs.Edges.{edge_of}
use Rattle.slice_graph.specs.inside.Edges.{edge_by}
use Rattle.slice_graph.proofs.Pairs.{flat_next}
use Rattle.slice_graph.proofs.edges.push_edges_of.Goals as goal

pub loop-process-preserved : goal.loop-process-preserved
loop-process-preserved c = flat_next (map edge_of c.args.edges.now) (map edge_of c.loop-process.edges) (map edge_of c.push_edge.new.edges)
    (edge_by c.args.row.now c.args.before.now c.args.past.now c.args.event.process c.args.event.position) 0 c.loop-process.process c.loop-process.process (omega arith)
    c.loop-process.invariant c.in_ok-push_edge.ensures
