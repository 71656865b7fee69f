use Rattle.std.specs.Vec.Iter.{into_iter_items}
use Rattle.std.proofs.Common.{◌≡◌, ◌++◌, length}
use Rattle.log_merge.specs.Sources.{all_events}
use Rattle.one_log.proofs.top.in_one_batch.Given as goal

abbrev pub invariant-loop-batch : goal.invariant-loop-batch
invariant-loop-batch l = l.all ++ all_events (into_iter_items l.rest) ≡ all_events l.fn.batches

abbrev pub decreases-loop-batch : goal.decreases-loop-batch
decreases-loop-batch l = length (into_iter_items l.rest)
