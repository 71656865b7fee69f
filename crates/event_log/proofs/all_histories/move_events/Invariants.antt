use Rattle.std.proofs.Common.{length}
use Rattle.event_log.proofs.Placing.{MovedSoFar}
use Rattle.event_log.proofs.all_histories.move_events.Given as goal

abbrev pub invariant-loop-event : goal.invariant-loop-event
invariant-loop-event l = MovedSoFar l.fn.all.items l.fn.batch.items l.batch.items l.all.items

abbrev pub decreases-loop-event : goal.decreases-loop-event
decreases-loop-event l = length l.batch.items
