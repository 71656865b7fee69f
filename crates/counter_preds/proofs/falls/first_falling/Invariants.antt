use Rattle.counter_preds.proofs.Falling.{FirstSoFar}
use Rattle.counter_preds.proofs.falls.first_falling.Given as goal

abbrev pub invariant-loop-counter : goal.invariant-loop-counter
invariant-loop-counter l = FirstSoFar l.states l.batch l.counters l.counter-index l.first
