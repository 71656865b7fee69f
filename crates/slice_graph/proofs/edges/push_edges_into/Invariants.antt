use Rattle.std.proofs.Common.{◌≡◌, ◌++◌, ◌-◌, length, map, flat_map}
use Rattle.std.specs.List.{range_with_len}
use Rattle.run_model.specs.Slice.{cut_of, edge_into}
use Rattle.slice_graph.specs.Views.{slice_of}
use Rattle.slice_graph.specs.Edges.{edge_of}
use Rattle.slice_graph.proofs.edges.push_edges_into.Given as goal

abbrev pub invariant-loop-position : goal.invariant-loop-position
invariant-loop-position l = map edge_of l.edges
    ≡ map edge_of l.fn.edges ++ flat_map (λ a. flat_map (edge_into l.order (slice_of l.slice) l.process a) (range_with_len 0 (length (cut_of ((slice_of l.slice).row l.process a)))))
    (range_with_len 1 (l.position - 1))
