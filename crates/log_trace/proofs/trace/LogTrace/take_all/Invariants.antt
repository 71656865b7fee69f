use Rattle.std.proofs.Common.{length}
use Rattle.std.specs.Vec.Iter.{into_iter_items}
use Rattle.log_trace.proofs.Items.{GoingOn}
use Rattle.log_trace.proofs.trace.LogTrace.take_all.Given as goal

abbrev pub invariant-loop-item : goal.invariant-loop-item
invariant-loop-item l = GoingOn l.fn.self l.self l.fn.items (into_iter_items l.rest)

abbrev pub decreases-loop-item : goal.decreases-loop-item
decreases-loop-item l = length (into_iter_items l.rest)
