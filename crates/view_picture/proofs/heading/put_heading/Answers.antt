use Rattle.std.proofs.Common.{◌≡◌, ◌++◌, List, ℕ, ap, subst}
use Rattle.std.specs.Prelude.{OnOk}
use Rattle.view_parts.proofs.Each.{puts_more, puts_last}
use Rattle.view_picture.specs.Picture.{opening, arrow_heads, verdict_drawn, formula_drawn}
use Rattle.view_picture.proofs.heading.put_heading.Goals as goal

pub returns : goal.returns
returns c =
    let out = c.args.out.now in
    let a0 = opening c.args.frame.now in
    let a1 = arrow_heads in
    let a2 = verdict_drawn c.args.report.now.verdict in
    let a3 = formula_drawn c.args.report.now.formula in
    let f0 : c.put_opening.new.out ≡ out ++ a0 = c.in_ok-put_opening.ensures in
    let f1 : c.put_arrow_heads.new.out ≡ out ++ (a0 ++ a1) = puts_more out (a0) a1 c.put_opening.new.out c.put_arrow_heads.new.out f0 c.in_ok-put_arrow_heads.ensures in
    let f2 : c.put_verdict.new.out ≡ out ++ (a0 ++ a1 ++ a2) = puts_more out (a0 ++ a1) a2 c.put_arrow_heads.new.out c.put_verdict.new.out f1 c.in_ok-put_verdict.ensures in
    puts_last c.put_formula.result out (a0 ++ a1 ++ a2) a3 c.put_verdict.new.out c.put_formula.new.out f2 (subst (λ (x : List ℕ). OnOk c.put_formula.result (c.put_formula.new.out ≡ c.put_verdict.new.out ++ x)) (ap formula_drawn c.as_slice.ensures) c.put_formula.ensures)
