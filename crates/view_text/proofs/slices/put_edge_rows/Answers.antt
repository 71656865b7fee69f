use Rattle.std.proofs.Common.{◌≡◌, ◌++◌, List, ℕ, take, sym, ap, subst, ◌∙◌}
use Rattle.std.specs.Prelude.{OnOk}
use Rattle.std.specs.List.{flat_map}
use Rattle.std.proofs.lemmas.List.{append-nil, take_all, take_min}
use Rattle.slice_graph.specs.declared.edges.Edge.{Edge}
use Rattle.event_log.proofs.Appends.{puts_next_at}
use Rattle.view_parts.proofs.Each.{flat_map-append, puts_last}
use Rattle.view_text.specs.Text.{edge_row, more_edges}
use Rattle.view_text.proofs.slices.put_edge_rows.Goals as goal

pub loop-edge-preserved : goal.loop-edge-preserved
loop-edge-preserved c =
    let row = edge_row c.args.states.now in
    puts_next_at (flat_map row) (flat_map-append row) c.args.out.now c.loop-edge.out c.put_edge_row.new.out (take c.min.result c.args.edges.now) c.loop-edge.edge-index _ c.loop-edge-test.true c.loop-edge.invariant
    (c.in_ok-put_edge_row.ensures ∙ ap (λ (t : List ℕ). c.loop-edge.out ++ t) (sym (append-nil _)))

pub returns : goal.returns
returns c =
    let row = edge_row c.args.states.now in
    let shown : take c.loop-edge.edge-index (take c.min.result c.args.edges.now) ≡ take 40 c.args.edges.now =
    take_all c.loop-edge.edge-index (take c.min.result c.args.edges.now) c.loop-edge-test.false ∙ ap (λ (n : ℕ). take n c.args.edges.now) c.min.ensures ∙ take_min 40 c.args.edges.now in
    let rows = c.loop-edge.invariant ∙ ap (λ (es : List Edge). c.args.out.now ++ flat_map row es) shown in
    puts_last c.put_more_edges.result _ _ _ _ _ rows (subst (λ (n : ℕ). OnOk c.put_more_edges.result (c.put_more_edges.new.out ≡ c.loop-edge.out ++ more_edges n)) c.saturating_sub.ensures c.put_more_edges.ensures)
