use Rattle.std.proofs.Common.{◌≡◌, ◌++◌, map, flat_map}
use Rattle.std.specs.List.{range_with_len}
use Rattle.slice_graph.specs.Edges.{edge_of}
use Rattle.slice_graph.specs.inside.Edges.{edge_by}
use Rattle.slice_graph.proofs.edges.push_edges_of.Given as goal

abbrev pub invariant-loop-process : goal.invariant-loop-process
invariant-loop-process l = map edge_of l.edges
    ≡ map edge_of l.fn.edges ++ flat_map (edge_by l.row l.before l.past l.event.process l.event.position) (range_with_len 0 l.process)
