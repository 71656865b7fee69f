use Rattle.std.proofs.Common.{ℕ, ◌≡◌, ◌<◌, true, false, slice_index_or}
use Rattle.slice_workers.specs.inside.Reaching.{HasReachedRows}
use Rattle.slice_workers.specs.inside.Settling.{HasSettled}
use Rattle.slice_workers.proofs.workers.settle_rest.Given as goal

abbrev pub invariant-loop-process : goal.invariant-loop-process
invariant-loop-process g l = record {
  reached : HasReachedRows l.table.system l.seat.floor l.finals l.bottom l.handed;
  settled : HasSettled l.table.system l.fn.seat l.seat l.fn.handed l.handed;
  done : (process : ℕ) → process < l.process → slice_index_or l.handed process false ≡ true;
}
