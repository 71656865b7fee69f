use Rattle.std.proofs.Common.{◌≡◌, length, map, flat_map}
use Rattle.std.specs.List.{range_with_len}
use Rattle.run_model.specs.Cut.{count}
use Rattle.run_model.specs.Slice.{cut_of, edge_into}
use Rattle.slice_graph.specs.Views.{slice_of}
use Rattle.slice_graph.specs.Edges.{edge_of}
use Rattle.slice_graph.proofs.edges.edges_within.Given as goal

abbrev pub invariant-loop-process : goal.invariant-loop-process
invariant-loop-process l = map edge_of l.edges
    ≡ flat_map (λ p. flat_map (λ a. flat_map (edge_into l.order (slice_of l.slice) p a) (range_with_len 0 (length (cut_of ((slice_of l.slice).row p a))))) (range_with_len 1 (count l.top p)))
    (range_with_len 0 l.process)
