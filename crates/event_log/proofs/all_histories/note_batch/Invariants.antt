use Rattle.event_log.proofs.Placing.{NotedSoFar}
use Rattle.event_log.proofs.all_histories.note_batch.Given as goal

abbrev pub invariant-loop-i : goal.invariant-loop-i
invariant-loop-i l = NotedSoFar l.fn.each.items l.start l.batch l.i l.each.items
