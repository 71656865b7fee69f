use Rattle.temporal_slice.proofs.Asked.{RaisedBelow}
use Rattle.temporal_slice.proofs.always.raise_beyond.Given as goal

abbrev pub invariant-loop-process : goal.invariant-loop-process
invariant-loop-process l = RaisedBelow l.words l.past l.fn.into l.process l.into
