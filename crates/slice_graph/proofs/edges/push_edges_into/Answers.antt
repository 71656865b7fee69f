use Rattle.std.proofs.Common.{◌≡◌, ℕ, List, ◌-◌, ◌++◌, length, map, flat_map, subst, arith, ap, ◌∙◌}
use Rattle.std.specs.List.{range_with_len}
use Rattle.run_model.specs.Slice.{Edge, cut_of, edge_into}
use Rattle.slice_graph.specs.Views.{slice_of}
use Rattle.slice_graph.specs.Edges.{edge_of}
use Rattle.slice_graph.proofs.Pairs.{flat_next}
use Rattle.slice_graph.proofs.EdgeSteps.{edges_same}
use Rattle.slice_graph.proofs.edges.push_edges_into.Goals as goal

pub loop-position-preserved : goal.loop-position-preserved
loop-position-preserved c =
    let into : ℕ → List Edge = λ a. flat_map (edge_into c.args.order.now (slice_of c.args.slice.now) c.args.process a) (range_with_len 0 (length (cut_of ((slice_of c.args.slice.now).row c.args.process a)))) in
    let same = edges_same c.args.order.now c.args.slice.now c.args.top.now c.args.process c.loop-position.position _ _ _ c.requires.top c.loop-position.auto.position (omega arith)
    c.words-row.ensures.words c.words-before.ensures.words c.clock.ensures.clock in
    subst (λ (n : ℕ). map edge_of c.push_edges_of.new.edges ≡ map edge_of c.args.edges.now ++ flat_map into (range_with_len 1 n)) (omega arith)
    (flat_next (map edge_of c.args.edges.now) (map edge_of c.loop-position.edges) (map edge_of c.push_edges_of.new.edges) into 1 (c.loop-position.position - 1) c.loop-position.position (omega arith)
    c.loop-position.invariant (c.in_ok-push_edges_of.ensures ∙ ap (λ (es : List Edge). map edge_of c.loop-position.edges ++ es) same))
