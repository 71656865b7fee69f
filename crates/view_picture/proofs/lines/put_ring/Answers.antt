use Rattle.std.proofs.Common.{◌≡◌, ◌++◌, subst}
use Rattle.std.specs.Prelude.{OnOk, codes}
use Rattle.view_picture.specs.declared.svg.Point.{Point}
use Rattle.view_picture.specs.Svg.{circle}
use Rattle.view_picture.proofs.lines.put_ring.Goals as goal

pub returns : goal.returns
returns c =
    subst (λ (p : Point). OnOk c.put_circle.result (c.put_circle.new.out ≡ c.args.out.now ++ circle p 16 (codes " fill='none' stroke='#b35900' stroke-width='2.5'"))) c.at.ensures.point c.put_circle.ensures
