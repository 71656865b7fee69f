use Rattle.std.proofs.Common.{◌≡◌, length, drop}
use Rattle.slice_graph.specs.Views.{joined_onto, joined_rows}
use Rattle.slice_graph.proofs.slice.join_rows.Given as goal

abbrev pub invariant-loop-row : goal.invariant-loop-row
invariant-loop-row l = record {
  width : length l.top ≡ length l.table.lens;
  joined : joined_onto l.top (drop l.row l.table.rows) ≡ joined_rows l.table;
}
