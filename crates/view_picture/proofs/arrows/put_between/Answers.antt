use Rattle.std.proofs.Common.{◌≡◌, ◌++◌, subst}
use Rattle.std.specs.Prelude.{OnOk}
use Rattle.view_picture.specs.declared.svg.Point.{Point}
use Rattle.view_picture.specs.Frame.{at}
use Rattle.view_picture.specs.Svg.{line}
use Rattle.view_picture.proofs.arrows.put_between.Goals as goal

pub returns : goal.returns
returns c =
    let f = c.args.frame.now in
    let rows = c.args.columns.now in
    let look = c.args.look.now in
    subst (λ (p : Point). OnOk c.put_line.result (c.put_line.new.out ≡ c.args.out.now ++ line p (at f rows c.args.other) look)) c.at-from.ensures.point
    (subst (λ (p : Point). OnOk c.put_line.result (c.put_line.new.out ≡ c.args.out.now ++ line c.at-from.result p look)) c.at-to.ensures.point c.put_line.ensures)
