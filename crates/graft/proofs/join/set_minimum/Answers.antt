use Rattle.std.proofs.Common.{refl, arith}
use Rattle.graft.proofs.Joining.{min_all}
use Rattle.graft.proofs.join.set_minimum.Goals as goal

pub returns : goal.returns
returns c = min_all _ _ _ _ _ c.loop-process.invariant (omega arith) refl c.requires.right
