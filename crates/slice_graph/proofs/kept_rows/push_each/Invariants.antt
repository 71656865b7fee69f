use Rattle.std.proofs.Common.{◌≡◌, length}
use Rattle.slice_graph.specs.inside.Pushing.{PushesRows, so_far}
use Rattle.slice_graph.proofs.kept_rows.push_each.Given as goal

abbrev pub invariant-loop-done : goal.invariant-loop-done
invariant-loop-done l = record {
  pushed : PushesRows l.rows l.first l.done (so_far l.fn.table l.fn.top) (so_far l.table l.top);
  lens : l.table.lens ≡ l.rows.lens;
  width : length l.room ≡ length l.rows.lens;
  top : length l.top ≡ length l.rows.lens;
}
