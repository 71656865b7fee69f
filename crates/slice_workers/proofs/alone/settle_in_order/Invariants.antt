use Rattle.std.proofs.Common.{◌+◌, sum, take}
use Rattle.slice_workers.specs.inside.Keeping.{AreKept}
use Rattle.slice_workers.specs.inside.Reaching.{IsReached}
use Rattle.slice_workers.proofs.Appended.{CountsUpTo}
use Rattle.slice_workers.proofs.alone.settle_in_order.Given as goal

abbrev pub invariant-loop-process : goal.invariant-loop-process
invariant-loop-process g l = record {
  counts : CountsUpTo l.table.system l.firm.bottom l.firsts l.bottom l.fn.seat l.seat l.process l.fn.steps l.steps;
  bottom : IsReached l.table.system 0 l.seat.floor l.bottom;
  kept : AreKept l.table.system l.seat.floor (sum (take l.process l.table.system.lens) + (0 + 1)) l.words.items;
}
