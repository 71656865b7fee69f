use Rattle.std.proofs.Common.{◌≡◌, ◌+◌, ◌<◌, length}
use Rattle.std.specs.Option.{option_copied}
use Rattle.pota_base.specs.Shape.{row_of}
use Rattle.run_model.specs.Cut.{lengths}
use Rattle.run_model.specs.Operators.{raised}
use Rattle.slice_graph.proofs.Building.{BuiltBy, IsRowOf}
use Rattle.temporal_slice.specs.inside.Operands.{operand}
use Rattle.temporal_slice.proofs.raised.cuts_from.Given as goal

abbrev pub invariant-loop-row : goal.invariant-loop-row
invariant-loop-row l = record {
  built : BuiltBy (lengths l.order) (IsRowOf (lengths l.order) (raised (operand l.order (option_copied l.child)) l.bottom)) l.row l.table;
  width : length l.room ≡ length (lengths l.order);
  process : l.before.process < length (lengths l.order);
  behind : row_of (lengths l.order) l.before + 1 ≡ l.row;
}
