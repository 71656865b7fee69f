use Rattle.std.proofs.Common.{◌≡◌, ◌+◌, ◌<◌, length}
use Rattle.pota_base.specs.Shape.{row_of}
use Rattle.run_model.specs.Cut.{lengths}
use Rattle.temporal_slice.proofs.Asked.{AsksBelow}
use Rattle.temporal_slice.proofs.always.asked_of_all.Given as goal

abbrev pub invariant-loop-row : goal.invariant-loop-row
invariant-loop-row l = record {
  width : length l.room ≡ length l.child.lens;
  asks : AsksBelow l.order l.child l.row l.room;
  process : l.before.process < length (lengths l.order);
  behind : row_of (lengths l.order) l.before + 1 ≡ l.row;
}
