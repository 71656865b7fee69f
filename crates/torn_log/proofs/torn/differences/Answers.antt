use Rattle.std.proofs.Common.{arith}
use Rattle.torn_log.proofs.Keeping.{difference_all}
use Rattle.torn_log.proofs.torn.differences.Goals as goal

pub returns : goal.returns
returns c = difference_all c.args.counts.now c.args.cut.now c.loop-i.left c.loop-i.i c.requires.counts (omega (arith, c.loop-i-test.false, c.len-i-end.ensures)) c.loop-i.invariant
