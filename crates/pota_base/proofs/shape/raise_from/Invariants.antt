use Rattle.pota_base.proofs.Lengths.{RaisedSoFar}
use Rattle.pota_base.proofs.shape.raise_from.Given as goal

abbrev pub invariant-loop-k : goal.invariant-loop-k
invariant-loop-k l = RaisedSoFar l.fn.starts.items l.first l.more l.k l.starts.items
