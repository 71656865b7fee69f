use Rattle.std.proofs.Common.{◌≡◌, length}
use Rattle.layer_rows.proofs.Settling.{RaisedRow}
use Rattle.layer_rows.proofs.slice_making.settle_row.Given as goal

abbrev pub invariant-loop-process : goal.invariant-loop-process
invariant-loop-process g l = record {
  lens : l.rows.lens ≡ l.system.lens;
  raised : RaisedRow (length l.system.lens) l.row l.fn.rows.words l.vector.items l.process l.rows.words;
}
