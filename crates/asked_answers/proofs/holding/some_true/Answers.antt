use Rattle.std.proofs.Common.{◌+◌, ◌-◌, sym, ◌∙◌, arith}
use Rattle.asked_answers.proofs.Parts.{next_true}
use Rattle.asked_answers.proofs.holding.some_true.Goals as goal

pub loop-number-preserved : goal.loop-number-preserved
loop-number-preserved c =
    c.loop-number.invariant ∙ next_true c.args.parts.now c.loop-number.number (c.args.to - c.loop-number.number) (c.args.to - (c.loop-number.number + 1))
    (omega (arith, c.loop-number-test.true)) (sym c.all_true.ensures ∙ c.if-all_true.false)
