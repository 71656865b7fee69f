use Rattle.watch_feeding.proofs.Longer.{LongBelow}
use Rattle.watch_feeding.proofs.rows.lengthen_rows.Given as goal

abbrev pub invariant-loop-w : goal.invariant-loop-w
invariant-loop-w l = LongBelow l.states l.watch_process l.fn.rows l.w l.lens l.rows
