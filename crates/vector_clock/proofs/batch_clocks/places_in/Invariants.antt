use Rattle.vector_clock.proofs.Placing.{PlacedSoFar}
use Rattle.vector_clock.proofs.batch_clocks.places_in.Given as goal

abbrev pub invariant-loop-i : goal.invariant-loop-i
invariant-loop-i l = PlacedSoFar l.procs l.batch l.places.items l.i
