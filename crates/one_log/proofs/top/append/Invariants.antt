use Rattle.std.specs.Vec.Iter.{into_iter_items}
use Rattle.std.proofs.Common.{◌≡◌, ◌++◌, length}
use Rattle.one_log.proofs.top.append.Given as goal

abbrev pub invariant-loop-event : goal.invariant-loop-event
invariant-loop-event l = l.all ++ into_iter_items l.rest ≡ l.fn.all ++ l.fn.batch

abbrev pub decreases-loop-event : goal.decreases-loop-event
decreases-loop-event l = length (into_iter_items l.rest)
