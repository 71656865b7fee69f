use Rattle.event_log.proofs.Placing.{CutBelow}
use Rattle.event_log.proofs.all_histories.cut_back.Given as goal

abbrev pub invariant-loop-process : goal.invariant-loop-process
invariant-loop-process l = CutBelow l.shape l.fn.each.items l.process l.each.items
