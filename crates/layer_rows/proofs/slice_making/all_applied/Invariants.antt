use Rattle.slice_graph.specs.Fitting.{FitsOrder}
use Rattle.layer_rows.proofs.slice_making.all_applied.Given as goal

abbrev pub invariant-loop-operator : goal.invariant-loop-operator
invariant-loop-operator l = FitsOrder l.order l.made
