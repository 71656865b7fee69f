use Rattle.std.proofs.Common.{◌≡◌, ◌+◌, length, sum, take}
use Rattle.slice_graph.specs.Views.{joined_rows}
use Rattle.slice_graph.proofs.Building.{BuiltBy}
use Rattle.slice_graph.proofs.Kept.{KeptRow}
use Rattle.slice_graph.proofs.slice.Slice.from_rows.Given as goal

abbrev pub invariant-loop-process : goal.invariant-loop-process
invariant-loop-process l = record {
  built : BuiltBy l.rows.lens (KeptRow l.rows.lens l.rows.words) (sum (take l.process l.rows.lens) + 1) l.table;
  joined : l.top ≡ joined_rows l.table;
  width : length l.top ≡ length l.rows.lens;
}
