use Rattle.std.proofs.Common.{length}
use Rattle.std.specs.Vec.Iter.{into_iter_items}
use Rattle.log_answers.proofs.Items.{TakenSoFar}
use Rattle.log_answers.proofs.checking.Checking.take_all.Given as goal

abbrev pub invariant-loop-item : goal.invariant-loop-item
invariant-loop-item g l =
    TakenSoFar (λ h. (goal.Watch-dyn g (h.watch.vtable, h.watch.value)).answers h.watch.value)
    (g.O.Sink.held l.fn.out) (g.O.Sink.held l.out) (g.O.Sink.faults l.fn.out) (g.O.Sink.faults l.out)
    l.fn.self.each_batch l.self.each_batch l.fn.self.check l.self.check l.fn.items (into_iter_items l.rest)

abbrev pub decreases-loop-item : goal.decreases-loop-item
decreases-loop-item g l = length (into_iter_items l.rest)
