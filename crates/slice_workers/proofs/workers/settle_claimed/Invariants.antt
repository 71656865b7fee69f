use Rattle.std.proofs.Common.{◌≡◌}
use Rattle.slice_workers.specs.inside.Reaching.{HasReachedRows}
use Rattle.slice_workers.proofs.workers.settle_claimed.Given as goal

abbrev pub invariant-loop-process : goal.invariant-loop-process
invariant-loop-process g l = record {
  table : l.seat.table ≡ l.fn.seat.table;
  reached : HasReachedRows l.table.system l.seat.floor l.finals l.bottom l.handed;
}
