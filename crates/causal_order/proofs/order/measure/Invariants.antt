use Rattle.run_model.specs.Cut.{lengths}
use Rattle.pota_base.proofs.Lengths.{MeasuredBelow}
use Rattle.causal_order.proofs.order.measure.Given as goal

abbrev pub invariant-loop-process : goal.invariant-loop-process
invariant-loop-process l = MeasuredBelow l.fn.shape (lengths l.table) l.process l.shape
