use Rattle.vector_clock.proofs.Admitting.{CheckedSoFar}
use Rattle.vector_clock.proofs.left_out.check.Given as goal

abbrev pub invariant-loop-batch : goal.invariant-loop-batch
invariant-loop-batch l = CheckedSoFar l.log l.batch-index l.clocks
