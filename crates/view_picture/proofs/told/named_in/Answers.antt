use Rattle.std.proofs.Common.{◌≡◌, ◌++◌, List, ℕ, take, ap, ◌∙◌}
use Rattle.std.specs.List.{flat_map}
use Rattle.std.specs.Option.{option_copied}
use Rattle.std.proofs.lemmas.List.{take_min}
use Rattle.pota_base.specs.declared.shape.EventId.{EventId}
use Rattle.slice_graph.specs.declared.edges.Edge.{Edge}
use Rattle.view_picture.specs.Told.{edges_of, first_drawn, pair_of, ends_of}
use Rattle.view_picture.proofs.told.named_in.Goals as goal

pub returns : goal.returns
returns c =
    let r = c.args.report.now in
    let edges = c.edges_of-edges.result.now in
    let shown : take c.min.result edges ≡ take 40 (edges_of r.slice) = ap (λ (n : ℕ). take n edges) c.min.ensures ∙ take_min 40 edges ∙ ap (λ (es : List Edge). take 40 es) c.edges_of-edges.ensures in
    let first : c.put_pair.new.named ≡ pair_of (first_drawn r.witnesses) =
    c.in_ok-put_pair.ensures ∙ ap (λ (l : List EventId). l ++ pair_of (option_copied c.first_drawn.result)) c.new-named.ensures ∙ ap pair_of (c.first_drawn.ensures ∙ ap first_drawn c.as_slice.ensures) in
    c.in_ok-put_ends.ensures ∙ ap (λ (l : List EventId). l ++ flat_map ends_of (take c.min.result edges)) first ∙ ap (λ (es : List Edge). pair_of (first_drawn r.witnesses) ++ flat_map ends_of es) shown
