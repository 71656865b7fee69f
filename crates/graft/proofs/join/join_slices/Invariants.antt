use Rattle.std.proofs.Common.{◌≡◌, length}
use Rattle.slice_graph.proofs.Building.{BuiltBy}
use Rattle.graft.proofs.Joining.{MinRow}
use Rattle.graft.proofs.join.join_slices.Given as goal

abbrev pub invariant-loop-row : goal.invariant-loop-row
invariant-loop-row l = record {
  built : BuiltBy l.left.lens (MinRow l.left l.right) l.row l.table;
  width : length l.cut ≡ length l.left.lens;
}
