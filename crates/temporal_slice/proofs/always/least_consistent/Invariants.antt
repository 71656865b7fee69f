use Rattle.temporal_slice.proofs.Asked.{Closes}
use Rattle.temporal_slice.proofs.always.least_consistent.Given as goal

abbrev pub invariant-loop-process : goal.invariant-loop-process
invariant-loop-process l = Closes l.order l.cut l.process l.least
