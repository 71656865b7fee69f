use Rattle.std.proofs.Common.{◌+◌, ◌-◌, ◌*◌, ◌≤◌, length, sum}
use Rattle.slice_workers.specs.Calls.{IsPaid}
use Rattle.slice_workers.specs.inside.Keeping.{KeepsUpTo, last_row_of}
use Rattle.slice_workers.specs.inside.Settling.{HasOnlyRisen}
use Rattle.slice_workers.proofs.alone.keep_others.Given as goal

abbrev pub invariant-loop-done : goal.invariant-loop-done
invariant-loop-done g l = record {
  risen : HasOnlyRisen l.table.system l.fn.seat l.seat;
  kept : KeepsUpTo l.table.system l.process l.done l.seat.floor (last_row_of l.before l.into) l.words.items;
  pays : l.steps + length l.table.system.pulls * sum l.fn.into ≤ l.fn.steps + length l.table.system.pulls * sum l.into;
  paid : IsPaid l.table.system (l.done - l.first) l.fn.seat l.seat l.fn.steps l.steps;
  from : l.first ≤ l.done;
}
