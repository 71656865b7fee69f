use Rattle.std.proofs.Common.{◌≡◌, ◌++◌, ◌-◌, ℕ, ap, subst, ◌∙◌}
use Rattle.std.specs.Prelude.{OnOk, codes}
use Rattle.view_parts.proofs.Each.{puts_last}
use Rattle.view_picture.specs.declared.svg.Point.{Point}
use Rattle.view_picture.specs.Picture.{row_at, sample, edge_sample_look, edges_note}
use Rattle.view_picture.specs.Told.{most_edges}
use Rattle.view_picture.proofs.legend.put_edges_told.Goals as goal

pub returns : goal.returns
returns c =
    let out = c.args.out.now in
    let f = c.args.frame.now in
    let edge = codes "edge of the slice" in
    let a0 = sample (row_at f 20 4) edge_sample_look edge in
    let a1 = edges_note f (c.args.edges - most_edges) in
    let f0 : c.put_sample.new.out ≡ out ++ a0 = c.in_ok-put_sample.ensures ∙ ap (λ (p : Point). out ++ sample p edge_sample_look edge) c.row_at.ensures.at in
    puts_last c.put_edges_note.result out a0 a1 c.put_sample.new.out c.put_edges_note.new.out f0 (subst (λ (n : ℕ). OnOk c.put_edges_note.result (c.put_edges_note.new.out ≡ c.put_sample.new.out ++ edges_note f n)) c.saturating_sub.ensures c.put_edges_note.ensures)
