use Rattle.vector_clock.proofs.CountLaws.{HaveMoreUpto}
use Rattle.vector_clock.proofs.counts.add_counts.Given as goal

abbrev pub invariant-loop-i : goal.invariant-loop-i
invariant-loop-i l = HaveMoreUpto l.i l.fn.clocks.items l.clocks.items l.values
