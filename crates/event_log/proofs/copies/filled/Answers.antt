use Rattle.std.proofs.Common.{◌<◌, length, sym, ◌∙◌, arith}
use Rattle.event_log.proofs.NumberSteps.{filled-next, filled-done}
use Rattle.event_log.proofs.copies.filled.Goals as goal

pub fill-preserved : goal.fill-preserved
fill-preserved c =
    let lt : length c.fill.variables < c.args.count = omega arith in
    rw (c.in_ok-push.ensures.ok, c.new.ensures) (filled-next c.fill.variables c.args.count lt ∙ c.fill.invariant)

pub returns : goal.returns
returns c = sym (filled-done c.fill.variables c.args.count (omega arith)) ∙ c.fill.invariant
