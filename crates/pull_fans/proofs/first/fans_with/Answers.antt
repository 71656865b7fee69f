use Rattle.std.proofs.Common.{arith, length, take, refl, ap, length-append}
use Rattle.pull_fans.specs.Fans.{pulls_of_fan, pulls_of_fans}
use Rattle.pull_fans.proofs.Placing.{item_is, pulls_more}
use Rattle.pull_fans.proofs.Raising.{length-pulls_of_fan}
use Rattle.pull_fans.proofs.first.fans_with.Goals as goal

pub loop-number-preserved : goal.loop-number-preserved
loop-number-preserved c =
    let fan = c.index-fans-number.result in
    let fans = c.args.fans.now in
    let number = c.loop-number.number in
    let more = pulls_more fans number fan c.loop-number-test.true (item_is fans fans number fan refl c.loop-number-test.true c.index-fans-number.is) in
    omega (arith, ap length more, length-append (pulls_of_fans (take number fans)) (pulls_of_fan fan), length-pulls_of_fan fan, c.loop-number.invariant, c.if-left-width.false, ap length c.targets-width.ensures)
