use Rattle.std.proofs.Common.{◌≡◌, length}
use Rattle.run_model.specs.Cut.{lengths}
use Rattle.slice_graph.proofs.StartingRows.{AreBuilt, IsRaisedRow}
use Rattle.slice_graph.proofs.starting.order_rows_above.Given as goal

abbrev pub invariant-loop-row : goal.invariant-loop-row
invariant-loop-row l = record {
  built : AreBuilt (lengths l.order) (IsRaisedRow l.order l.vector) l.row l.words.items;
  width : length l.room ≡ length (lengths l.order);
  wide_width : length l.wide ≡ length (lengths l.order);
}
