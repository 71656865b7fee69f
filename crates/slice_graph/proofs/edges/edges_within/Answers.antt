use Rattle.std.proofs.Common.{ℕ, length, map, flat_map, arith, ap, ◌∙◌}
use Rattle.std.specs.List.{range_with_len}
use Rattle.run_model.specs.Cut.{count}
use Rattle.run_model.specs.Slice.{cut_of, edge_into, edges_of}
use Rattle.run_model.proofs.Counts.{length-lengths}
use Rattle.slice_graph.specs.Views.{slice_of}
use Rattle.slice_graph.specs.Edges.{edge_of}
use Rattle.slice_graph.proofs.Pairs.{flat_first}
use Rattle.slice_graph.proofs.edges.edges_within.Goals as goal

pub loop-process-preserved : goal.loop-process-preserved
loop-process-preserved c = flat_first (map edge_of c.loop-process.edges) (map edge_of c.push_edges_into.new.edges)
    (λ p. flat_map (λ a. flat_map (edge_into c.args.order.now (slice_of c.args.slice.now) p a) (range_with_len 0 (length (cut_of ((slice_of c.args.slice.now).row p a))))) (range_with_len 1 (count c.args.top.now p)))
    c.loop-process.process c.loop-process.invariant c.in_ok-push_edges_into.ensures

pub returns : goal.returns
unfolding edges_of
returns c = c.loop-process.invariant ∙ ap (λ (n : ℕ). flat_map (λ p. flat_map (λ a. flat_map (edge_into c.args.order.now (slice_of c.args.slice.now) p a)
    (range_with_len 0 (length (cut_of ((slice_of c.args.slice.now).row p a))))) (range_with_len 1 (count c.args.top.now p))) (range_with_len 0 n))
    (omega (arith, c.procs-process-end.ensures.count, ap length c.shape.ensures.lens, ap length c.requires.fits.shape, length-lengths c.args.order.now, c.requires.top.member.consistent.shaped))
