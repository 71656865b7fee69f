use Rattle.std.proofs.Common.{◌≤◌, sum}
use Rattle.bound_table.specs.Firm.{ReachesFirst}
use Rattle.slice_workers.specs.inside.Reaching.{IsReached}
use Rattle.slice_workers.specs.inside.Settling.{HasOnlyRisen}
use Rattle.slice_workers.proofs.Reached.{IsBefore}
use Rattle.slice_workers.proofs.process.settle_process.Given as goal

abbrev pub invariant-loop-done : goal.invariant-loop-done
invariant-loop-done g l = record {
  risen : HasOnlyRisen l.table.system l.fn.seat l.seat;
  there : l.before ≤ sum l.table.system.lens;
  start : IsBefore l.table.system.lens l.process l.done l.before;
  reached : IsReached l.table.system l.before l.seat.floor l.into;
  reaches : ReachesFirst l.table.system l.process l.done l.seat.floor;
}
