use Rattle.std.proofs.Common.{◌≡◌, ◌++◌, List, ℕ, false, ap, subst, ◌∙◌}
use Rattle.std.specs.Prelude.{OnOk, codes}
use Rattle.view_parts.proofs.Each.{puts_more, puts_last}
use Rattle.view_picture.specs.declared.svg.Point.{Point}
use Rattle.view_picture.specs.Drawing.{mark_look, lost_look}
use Rattle.view_picture.specs.Picture.{row_at, sample, sample_disc, message_look}
use Rattle.view_picture.proofs.legend.put_legend.Goals as goal

pub returns : goal.returns
returns c =
    let out = c.args.out.now in
    let f = c.args.frame.now in
    let event = codes "event" in
    let lost = codes "message that is not received" in
    let a0 = sample_disc (row_at f 20 0) (mark_look false) event in
    let a1 = sample (row_at f 20 1) message_look (codes "message") in
    let a2 = sample (row_at f 20 2) lost_look lost in
    let f0 : c.put_sample_disc.new.out ≡ out ++ a0 =
    c.in_ok-put_sample_disc.ensures ∙ ap (λ (p : Point). out ++ sample_disc p c.mark_look.result.now event) c.row_at.ensures.at ∙ ap (λ (l : List ℕ). out ++ sample_disc (row_at f 20 0) l event) c.mark_look.ensures in
    let f1 : c.put_sample.new.out ≡ out ++ (a0 ++ a1) = puts_more out (a0) a1 c.put_sample_disc.new.out c.put_sample.new.out f0 (c.in_ok-put_sample.ensures ∙ ap (λ (p : Point). c.put_sample_disc.new.out ++ sample p message_look (codes "message")) c.row_at-2.ensures.at) in
    puts_last c.put_sample-2.result out (a0 ++ a1) a2 c.put_sample.new.out c.put_sample-2.new.out f1 (subst (λ (p : Point). OnOk c.put_sample-2.result (c.put_sample-2.new.out ≡ c.put_sample.new.out ++ sample p lost_look lost)) c.row_at-3.ensures.at c.put_sample-2.ensures)
