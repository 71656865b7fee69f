use Rattle.std.proofs.Common.{◌≡◌, ◌++◌, ◌+◌, ◌-◌, List, ℕ, ap, sym, subst, ◌∙◌}
use Rattle.std.specs.Prelude.{OnOk}
use Rattle.run_model.specs.Cut.{count}
use Rattle.view_parts.proofs.Each.{puts_last}
use Rattle.view_picture.specs.declared.svg.Point.{Point}
use Rattle.view_picture.specs.Frame.{behind}
use Rattle.view_picture.specs.Drawing.{corner}
use Rattle.view_picture.proofs.Tied.{corners_shown}
use Rattle.view_picture.proofs.lines.put_corners.Goals as goal

pub returns : goal.returns
returns c =
    let out = c.args.out.now in
    let f = c.args.frame.now in
    let rows = c.args.columns.now in
    let process = c.args.process in
    let shift = c.args.shift in
    let p : Point = behind f rows process (count c.args.cut.now process) in
    let last : c.behind-last.result ≡ p = c.behind-last.ensures.point ∙ ap (λ (n : ℕ). behind f rows process n) c.get.ensures in
    let a0 = corner (p.x + shift) (p.y - 32) in
    let a1 = corner (p.x + shift) (p.y + 32) in
    let f0 : c.put_corner.new.out ≡ out ++ a0 =
    c.in_ok-put_corner.ensures ∙ ap (λ (y : ℕ). out ++ corner (c.behind-last.result.x + shift) y) c.saturating_sub.ensures ∙ ap (λ (q : Point). out ++ corner (q.x + shift) (q.y - 32)) last in
    let drawn = puts_last c.put_corner-2.result out a0 a1 c.put_corner.new.out c.put_corner-2.new.out f0 (subst (λ (q : Point). OnOk c.put_corner-2.result (c.put_corner-2.new.out ≡ c.put_corner.new.out ++ corner (q.x + shift) (q.y + 32))) last c.put_corner-2.ensures) in
    subst (λ (x : List ℕ). OnOk c.put_corner-2.result (c.put_corner-2.new.out ≡ out ++ x)) (sym (corners_shown f rows c.args.cut.now shift process (sym c.has_shown.ensures ∙ c.if-not-has_shown.false))) drawn
