use Rattle.std.proofs.Common.{◌≡◌, ◌++◌, List, ℕ, true, ap, subst, ◌∙◌}
use Rattle.std.specs.Prelude.{OnOk, codes}
use Rattle.view_parts.proofs.Each.{puts_more, puts_last}
use Rattle.view_picture.specs.declared.svg.Point.{Point}
use Rattle.view_picture.specs.Drawing.{mark_look, least_look, greatest_look}
use Rattle.view_picture.specs.Picture.{row_at, sample, sample_disc}
use Rattle.view_picture.proofs.legend.put_slice_legend.Goals as goal

pub returns : goal.returns
returns c =
    let out = c.args.out.now in
    let f = c.args.frame.now in
    let least = codes "least cut of the slice" in
    let greatest = codes "greatest cut of the slice" in
    let beyond = codes "event beyond the greatest cut" in
    let a0 = sample (row_at f 300 0) least_look least in
    let a1 = sample (row_at f 300 1) greatest_look greatest in
    let a2 = sample_disc (row_at f 300 2) (mark_look true) beyond in
    let f0 : c.put_sample.new.out ≡ out ++ a0 = c.in_ok-put_sample.ensures ∙ ap (λ (p : Point). out ++ sample p least_look least) c.row_at.ensures.at in
    let f1 : c.put_sample-2.new.out ≡ out ++ (a0 ++ a1) = puts_more out (a0) a1 c.put_sample.new.out c.put_sample-2.new.out f0 (c.in_ok-put_sample-2.ensures ∙ ap (λ (p : Point). c.put_sample.new.out ++ sample p greatest_look greatest) c.row_at-2.ensures.at) in
    let placed = subst (λ (p : Point). OnOk c.put_sample_disc.result (c.put_sample_disc.new.out ≡ c.put_sample-2.new.out ++ sample_disc p c.mark_look.result.now beyond)) c.row_at-3.ensures.at c.put_sample_disc.ensures in
    puts_last c.put_sample_disc.result out (a0 ++ a1) a2 c.put_sample-2.new.out c.put_sample_disc.new.out f1 (subst (λ (l : List ℕ). OnOk c.put_sample_disc.result (c.put_sample_disc.new.out ≡ c.put_sample-2.new.out ++ sample_disc (row_at f 300 2) l beyond)) c.mark_look.ensures placed)
