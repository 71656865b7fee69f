use Rattle.std.proofs.Common.{arith}
use Rattle.temporal_slice.proofs.Asked.{raised_within}
use Rattle.temporal_slice.proofs.always.raise_beyond.Goals as goal

pub returns-clause-raised : goal.returns-clause-raised
returns-clause-raised c =
    raised_within c.args.words.now c.args.past.now c.args.into.now c.loop-process.into c.loop-process.process c.loop-process.invariant (omega arith) c.requires.width
