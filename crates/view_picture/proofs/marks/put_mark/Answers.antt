use Rattle.std.proofs.Common.{◌≡◌, ◌++◌, ◌∷◌, [], List, ℕ, ap, ◌∙◌}
use Rattle.std.specs.Prelude.{codes}
use Rattle.view_parts.proofs.Each.{puts_more, puts_last}
use Rattle.std.specs.Prelude.{Bool}
use Rattle.std.specs.Option.{option_copied}
use Rattle.view_picture.specs.declared.svg.Point.{Point}
use Rattle.view_picture.specs.Frame.{at}
use Rattle.view_picture.specs.Drawing.{title, disc, is_beyond, assigns_under}
use Rattle.view_picture.proofs.marks.put_mark.Goals as goal

pub returns : goal.returns
returns c =
    let out = c.args.out.now in
    let m = c.args.marked.now in
    let e = c.args.event in
    let p : Point = at m.frame.now m.columns.now e in
    let b = is_beyond (option_copied m.top) e in
    let s = m.states.now in
    let a0 = codes "<g>" in
    let a1 = title s e in
    let a2 = disc p b e.position in
    let a3 = assigns_under s m.frame.now.wide p e in
    let a4 = codes "</g>" ++ 10 ∷ [] in
    let f0 : c.extend_from_slice.new.self ≡ out ++ a0 = c.in_ok-extend_from_slice.ensures.ok in
    let f1 : c.put_title.new.out ≡ out ++ (a0 ++ a1) = puts_more out (a0) a1 c.extend_from_slice.new.self c.put_title.new.out f0 c.in_ok-put_title.ensures in
    let f2 : c.put_disc.new.out ≡ out ++ (a0 ++ a1 ++ a2) = puts_more out (a0 ++ a1) a2 c.put_title.new.out c.put_disc.new.out f1 (c.in_ok-put_disc.ensures ∙ ap (λ (x : List ℕ). c.put_title.new.out ++ x) (ap (λ (q : Point). disc q c.is_beyond-beyond.result e.position) c.at-at.ensures.point ∙ ap (λ (v : Bool). disc p v e.position) c.is_beyond-beyond.ensures)) in
    let f3 : c.put_assigns_under.new.out ≡ out ++ (a0 ++ a1 ++ a2 ++ a3) = puts_more out (a0 ++ a1 ++ a2) a3 c.put_disc.new.out c.put_assigns_under.new.out f2 (c.in_ok-put_assigns_under.ensures ∙ ap (λ (x : List ℕ). c.put_disc.new.out ++ x) (ap (λ (q : Point). assigns_under s m.frame.now.wide q e) c.at-at.ensures.point)) in
    puts_last c.extend_from_slice-2.result out (a0 ++ a1 ++ a2 ++ a3) a4 c.put_assigns_under.new.out c.extend_from_slice-2.new.self f3 c.extend_from_slice-2.ensures.ok
