use Rattle.std.proofs.Common.{ℕ, ◌<◌, ◌≤◌, length, slice_index}
use Rattle.pull_system.specs.Vector.{IsAtMost}
use Rattle.raise_machine.specs.Bounds.{word_at}
use Rattle.bound_table.specs.Views.{KeepsClaims}
use Rattle.slice_workers.proofs.process.lend_others.Given as goal

abbrev pub invariant-loop-process : goal.invariant-loop-process
invariant-loop-process l = record {
  keeps : KeepsClaims l.fn.seat l.seat;
  rises : IsAtMost l.fn.seat.floor l.seat.floor;
  counts : (i : ℕ) → i < length l.table.system.lens → slice_index l.counts i ≤ word_at l.table.system.lens l.seat.floor l.row i;
}
