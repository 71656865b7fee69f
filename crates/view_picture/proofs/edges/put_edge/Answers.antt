use Rattle.std.proofs.Common.{◌≡◌, ◌++◌, ◌∷◌, [], List, ℕ, ap, ◌∙◌}
use Rattle.std.specs.Prelude.{codes}
use Rattle.view_parts.proofs.Each.{puts_more, puts_last}
use Rattle.view_picture.specs.Drawing.{spot, bow}
use Rattle.view_picture.specs.Frame.{at}
use Rattle.view_picture.specs.declared.svg.Point.{Point}
use Rattle.view_picture.proofs.edges.put_edge.Goals as goal

pub returns : goal.returns
returns c =
    let out = c.args.out.now in
    let f = c.args.frame.now in
    let rows = c.args.columns.now in
    let from : Point = at f rows c.args.edge.cause in
    let to : Point = at f rows c.args.edge.effect in
    let bowed : c.bow.result ≡ bow from to = c.bow.ensures ∙ ap (λ (p : Point). bow p c.at-to.result) c.at-from.ensures.point ∙ ap (λ (p : Point). bow from p) c.at-to.ensures.point in
    let a0 = codes "<path d='M" in
    let a1 = spot from in
    let a2 = codes " Q" in
    let a3 = spot (bow from to) in
    let a4 = spot to in
    let a5 = codes "' fill='none' stroke='#7a3db8' stroke-dasharray='5 4' marker-end='url(#edge)'/>" ++ 10 ∷ [] in
    let f0 : c.extend_from_slice.new.self ≡ out ++ a0 = c.in_ok-extend_from_slice.ensures.ok in
    let f1 : c.put_spot.new.out ≡ out ++ (a0 ++ a1) = puts_more out (a0) a1 c.extend_from_slice.new.self c.put_spot.new.out f0 (c.in_ok-put_spot.ensures ∙ ap (λ (x : List ℕ). c.extend_from_slice.new.self ++ x) (ap spot c.at-from.ensures.point)) in
    let f2 : c.extend_from_slice-2.new.self ≡ out ++ (a0 ++ a1 ++ a2) = puts_more out (a0 ++ a1) a2 c.put_spot.new.out c.extend_from_slice-2.new.self f1 c.in_ok-extend_from_slice-2.ensures.ok in
    let f3 : c.put_spot-2.new.out ≡ out ++ (a0 ++ a1 ++ a2 ++ a3) = puts_more out (a0 ++ a1 ++ a2) a3 c.extend_from_slice-2.new.self c.put_spot-2.new.out f2 (c.in_ok-put_spot-2.ensures ∙ ap (λ (x : List ℕ). c.extend_from_slice-2.new.self ++ x) (ap spot bowed)) in
    let f4 : c.put_spot-3.new.out ≡ out ++ (a0 ++ a1 ++ a2 ++ a3 ++ a4) = puts_more out (a0 ++ a1 ++ a2 ++ a3) a4 c.put_spot-2.new.out c.put_spot-3.new.out f3 (c.in_ok-put_spot-3.ensures ∙ ap (λ (x : List ℕ). c.put_spot-2.new.out ++ x) (ap spot c.at-to.ensures.point)) in
    puts_last c.extend_from_slice-3.result out (a0 ++ a1 ++ a2 ++ a3 ++ a4) a5 c.put_spot-3.new.out c.extend_from_slice-3.new.self f4 c.extend_from_slice-3.ensures.ok
