use Rattle.std.proofs.Common.{◌≤◌, length, arith}
use Rattle.std.specs.Fmt.{decimal}
use Rattle.std.proofs.lemmas.Fmt.{decimal_nonempty, length-decimal-le}
use Rattle.log_lines.proofs.FrameLaws.{one_digit, digit_more}
use Rattle.log_lines.proofs.frames.width_of.Goals as goal

pub overflow_add-width : goal.overflow_add-width
overflow_add-width c =
    let most : length (decimal c.args.number) ≤ 10 = length-decimal-le 10 c.args.number (omega arith) (omega (arith, c.ranges.number.fits)) (omega (arith, c.ranges.number.fits)) in
    let some = decimal_nonempty c.loop-rest.rest (omega (arith, c.ranges.number.fits, c.loop-rest.invariant.1)) in
    omega (arith, c.loop-rest.invariant.0)

pub loop-rest-preserved : goal.loop-rest-preserved
loop-rest-preserved c =
    let step = digit_more c.loop-rest.rest (omega (arith, c.loop-rest-test.true)) (omega (arith, c.ranges.number.fits, c.loop-rest.invariant.1)) in
    (omega (arith, c.loop-rest.invariant.0, step), omega (arith, c.loop-rest.invariant.1))

pub returns : goal.returns
returns c =
    let last = one_digit c.loop-rest.rest (omega (arith, c.loop-rest-test.false)) in
    omega (arith, c.loop-rest.invariant.0, last)
