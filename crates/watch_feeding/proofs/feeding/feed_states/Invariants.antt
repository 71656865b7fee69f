use Rattle.watch_feeding.specs.Fed.{states_at}
use Rattle.watch_feeding.proofs.Turns.{FedSoFar}
use Rattle.watch_feeding.proofs.feeding.feed_states.Given as goal

abbrev pub invariant-loop-position : goal.invariant-loop-position
invariant-loop-position g l =
    FedSoFar (states_at l.states l.process) l.from l.position l.fn.row ((goal.Watch-dyn g (l.fn.watch.vtable, l.fn.watch.value)).answers l.fn.watch.value) l.row ((goal.Watch-dyn g (l.watch.vtable, l.watch.value)).answers l.watch.value)
