use Rattle.std.specs.Prelude.{IfSome}
use Rattle.slice_graph.specs.Fitting.{FitsOrder}
use Rattle.layer_rows.proofs.slice_making.slice_of_parts.Given as goal

abbrev pub invariant-loop-part : goal.invariant-loop-part
invariant-loop-part g l = IfSome l.joined (FitsOrder l.order)
