use Rattle.watch_feeding.proofs.InTurn.{FedBelow}
use Rattle.watch_feeding.proofs.feeding.feed_watches.Given as goal

abbrev pub invariant-loop-w : goal.invariant-loop-w
invariant-loop-w g l =
    FedBelow (λ h. (goal.Watch-dyn g (h.watch.vtable, h.watch.value)).answers h.watch.value) (λ h. h.name) l.states l.watch_process l.from l.fn.watches.items l.fn.rows l.w l.watches.items l.rows
