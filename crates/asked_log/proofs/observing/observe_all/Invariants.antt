use Rattle.std.specs.Vec.Iter.{into_iter_items}
use Rattle.std.proofs.Common.{length}
use Rattle.asked_log.proofs.Observed.{Through}
use Rattle.asked_log.proofs.observing.observe_all.Given as goal

abbrev pub invariant-loop-batch : goal.invariant-loop-batch
invariant-loop-batch g l =
    Through (λ h. (goal.Watch-dyn g (h.watch.vtable, h.watch.value)).answers h.watch.value) l.fn.batches l.fn.observation l.observed (into_iter_items l.rest)

abbrev pub decreases-loop-batch : goal.decreases-loop-batch
decreases-loop-batch g l = length (into_iter_items l.rest)
