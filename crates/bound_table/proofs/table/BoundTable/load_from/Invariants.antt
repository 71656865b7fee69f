use Rattle.std.proofs.Common.{ℕ, ◌≡◌, ◌+◌, ◌<◌, slice_index}
use Rattle.pull_system.specs.Vector.{IsAtMost}
use Rattle.raise_machine.specs.Bounds.{AreBounds}
use Rattle.bound_table.specs.Views.{KeepsClaims}
use Rattle.bound_table.proofs.table.BoundTable.load_from.Given as goal

abbrev pub invariant-loop-i : goal.invariant-loop-i
invariant-loop-i l = record {
  keeps : KeepsClaims l.fn.seat l.seat;
  read : (k : ℕ) → k < l.i → slice_index l.into k ≡ slice_index l.seat.floor (l.first + k);
  before : (word : ℕ) → word < l.first → slice_index l.seat.floor word ≡ slice_index l.fn.seat.floor word;
  rises : IsAtMost l.fn.seat.floor l.seat.floor;
  bounds : AreBounds l.self.system l.seat.floor;
}
