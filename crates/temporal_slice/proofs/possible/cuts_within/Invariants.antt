use Rattle.std.proofs.Common.{◌≡◌, ◌+◌, ◌<◌, length}
use Rattle.pota_base.specs.Shape.{row_of}
use Rattle.run_model.specs.Cut.{lengths}
use Rattle.run_model.specs.Operators.{whole, lowered}
use Rattle.slice_graph.proofs.Building.{BuiltBy, IsRowOf}
use Rattle.temporal_slice.proofs.possible.cuts_within.Given as goal

abbrev pub invariant-loop-row : goal.invariant-loop-row
invariant-loop-row l = record {
  built : BuiltBy (lengths l.order) (IsRowOf (lengths l.order) (lowered (whole l.order) l.top)) l.row l.table;
  process : l.before.process < length (lengths l.order);
  behind : row_of (lengths l.order) l.before + 1 ≡ l.row;
}
