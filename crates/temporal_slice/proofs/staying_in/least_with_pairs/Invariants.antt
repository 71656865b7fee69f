use Rattle.std.proofs.Common.{◌≡◌, ◌+◌, ◌<◌, length}
use Rattle.pota_base.specs.Shape.{row_of}
use Rattle.temporal_slice.proofs.Shared.{PairsBelow}
use Rattle.temporal_slice.proofs.staying_in.least_with_pairs.Given as goal

abbrev pub invariant-loop-row : goal.invariant-loop-row
invariant-loop-row l = record {
  pairs : PairsBelow l.order l.child l.row l.least;
  process : l.before.process < length l.child.lens;
  behind : row_of l.child.lens l.before + 1 ≡ l.row;
}
