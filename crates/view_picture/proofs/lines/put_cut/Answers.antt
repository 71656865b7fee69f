use Rattle.std.proofs.Common.{◌≡◌, ◌++◌, ◌∷◌, [], ℕ, length, ap, ◌∙◌, arith}
use Rattle.std.specs.Prelude.{codes}
use Rattle.view_parts.specs.Each.{each_below}
use Rattle.view_parts.proofs.Each.{puts_each, puts_more, puts_last}
use Rattle.view_picture.specs.Drawing.{shown_corners}
use Rattle.view_picture.proofs.lines.put_cut.Goals as goal

pub loop-process-preserved : goal.loop-process-preserved
loop-process-preserved c = puts_each (shown_corners c.args.frame.now c.args.columns.now c.args.cut.now c.args.shift) c.extend_from_slice.new.self c.loop-process.out c.put_corners.new.out c.loop-process.process c.loop-process.invariant c.in_ok-put_corners.ensures

pub returns : goal.returns
returns c =
    let out = c.args.out.now in
    let made = shown_corners c.args.frame.now c.args.columns.now c.args.cut.now c.args.shift in
    let end : c.loop-process.process ≡ length c.args.cut.now = omega (arith, ap length c.as_slice.ensures) in
    let a0 = codes "<polyline points='" in
    let a1 = each_below (length c.args.cut.now) made in
    let a2 = codes "' fill='none'" in
    let a3 = c.args.look.now in
    let a4 = codes "/>" ++ 10 ∷ [] in
    let looped = c.loop-process.invariant ∙ ap (λ (n : ℕ). c.extend_from_slice.new.self ++ each_below n made) end in
    let f1 : c.loop-process.out ≡ out ++ (a0 ++ a1) = puts_more out a0 a1 c.extend_from_slice.new.self c.loop-process.out c.in_ok-extend_from_slice.ensures.ok looped in
    let f2 : c.extend_from_slice-2.new.self ≡ out ++ (a0 ++ a1 ++ a2) = puts_more out (a0 ++ a1) a2 c.loop-process.out c.extend_from_slice-2.new.self f1 c.in_ok-extend_from_slice-2.ensures.ok in
    let f3 : c.extend_from_slice-3.new.self ≡ out ++ (a0 ++ a1 ++ a2 ++ a3) = puts_more out (a0 ++ a1 ++ a2) a3 c.extend_from_slice-2.new.self c.extend_from_slice-3.new.self f2 c.in_ok-extend_from_slice-3.ensures.ok in
    puts_last c.extend_from_slice-4.result out (a0 ++ a1 ++ a2 ++ a3) a4 c.extend_from_slice-3.new.self c.extend_from_slice-4.new.self f3 c.extend_from_slice-4.ensures.ok
