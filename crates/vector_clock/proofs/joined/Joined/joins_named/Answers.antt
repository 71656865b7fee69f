use Rattle.std.proofs.Common.{get_or, arith}
use Rattle.causal_order.proofs.Growing.{count-lengths}
use Rattle.vector_clock.proofs.joined.Joined.joins_named.Goals as goal

pub clock-named-requires-clause-last : goal.clock-named-requires-clause-last
clock-named-requires-clause-last c =
    let sound = c.requires.judged.sound c.args.other (get_or c.as_slice-clock.result.now c.args.other 0) (omega (arith, c.if-position-lt1.false), omega (arith, c.if-position-judged.false)) in
    omega (arith, sound.own, sound.named c.args.other, count-lengths c.args.self.now c.args.other)
