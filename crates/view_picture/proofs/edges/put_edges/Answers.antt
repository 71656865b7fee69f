use Rattle.std.proofs.Common.{◌≡◌, ◌++◌, List, ℕ, take, sym, ap, ◌∙◌}
use Rattle.std.specs.List.{flat_map}
use Rattle.std.proofs.lemmas.List.{append-nil, take_all, take_min}
use Rattle.slice_graph.specs.declared.edges.Edge.{Edge}
use Rattle.event_log.proofs.Appends.{puts_next_at}
use Rattle.view_parts.proofs.Each.{flat_map-append}
use Rattle.view_picture.specs.Drawing.{edge_drawn}
use Rattle.view_picture.proofs.edges.put_edges.Goals as goal

pub loop-edge-preserved : goal.loop-edge-preserved
loop-edge-preserved c =
    let drawn = edge_drawn c.args.frame.now c.args.columns.now in
    puts_next_at (flat_map drawn) (flat_map-append drawn) c.args.out.now c.loop-edge.out c.put_edge.new.out (take c.min.result c.args.edges.now) c.loop-edge.edge-index _ c.loop-edge-test.true c.loop-edge.invariant
    (c.in_ok-put_edge.ensures ∙ ap (λ (t : List ℕ). c.loop-edge.out ++ t) (sym (append-nil _)))

pub returns : goal.returns
returns c =
    let drawn = edge_drawn c.args.frame.now c.args.columns.now in
    let shown : take c.loop-edge.edge-index (take c.min.result c.args.edges.now) ≡ take 40 c.args.edges.now =
    take_all c.loop-edge.edge-index (take c.min.result c.args.edges.now) c.loop-edge-test.false ∙ ap (λ (n : ℕ). take n c.args.edges.now) c.min.ensures ∙ take_min 40 c.args.edges.now in
    c.loop-edge.invariant ∙ ap (λ (es : List Edge). c.args.out.now ++ flat_map drawn es) shown
