use Rattle.std.proofs.Common.{◌≡◌, ◌≢◌, ℕ, ◌<◌, ◌≤◌, true, length}
use Rattle.pull_system.specs.Vector.{IsAtMost}
use Rattle.raise_machine.specs.Bounds.{AreBounds, word_at, has_start}
use Rattle.bound_table.specs.Views.{KeepsClaims}
use Rattle.bound_table.proofs.table.BoundTable.lend.Given as goal

abbrev pub invariant-loop-process : goal.invariant-loop-process
invariant-loop-process l = record {
  keeps : KeepsClaims l.fn.seat l.seat;
  event : has_start l.self.system.lens l.seat.floor l.to_row l.from_row ≡ true;
  lent : (process : ℕ) → process < l.process → word_at l.self.system.lens l.seat.floor l.from_row process ≤ word_at l.self.system.lens l.seat.floor l.to_row process;
  others : (row process : ℕ) → row ≢ l.from_row → row ≢ l.to_row → process < length l.self.system.lens → word_at l.self.system.lens l.seat.floor row process ≡ word_at l.self.system.lens l.fn.seat.floor row process;
  rises : IsAtMost l.fn.seat.floor l.seat.floor;
  bounds : AreBounds l.self.system l.seat.floor;
}
