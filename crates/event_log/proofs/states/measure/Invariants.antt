use Rattle.pota_base.proofs.Lengths.{MeasuredBelow}
use Rattle.event_log.proofs.Keeping.{lens_in}
use Rattle.event_log.proofs.states.measure.Given as goal

abbrev pub invariant-loop-process : goal.invariant-loop-process
invariant-loop-process l = MeasuredBelow l.fn.shape (lens_in l.histories) l.process l.shape
