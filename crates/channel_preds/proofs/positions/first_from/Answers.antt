use Rattle.std.proofs.Common.{arith}
use Rattle.channel_preds.proofs.Reaching.{first_reached, none_reached}
use Rattle.channel_preds.proofs.positions.first_from.Goals as goal

pub returns-then-follows-place-clause-first : goal.returns-then-follows-place-clause-first
returns-then-follows-place-clause-first c =
    first_reached c.args.follows.now c.args.extra c.args.bound c.loop-place.place c.loop-place-test.true c.loop-place.invariant (omega arith)

pub returns-clause-first : goal.returns-clause-first
returns-clause-first c =
    none_reached c.args.follows.now c.args.extra c.args.bound (λ y lt. c.loop-place.invariant y (omega arith))
