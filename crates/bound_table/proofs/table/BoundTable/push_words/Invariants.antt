use Rattle.std.proofs.Common.{◌≡◌, ◌-◌, ◌≤◌, ◌++◌, slice_range}
use Rattle.pull_system.specs.Vector.{IsAtMost}
use Rattle.raise_machine.specs.Bounds.{AreBounds}
use Rattle.bound_table.specs.Views.{KeepsClaims}
use Rattle.bound_table.proofs.table.BoundTable.push_words.Given as goal

abbrev pub invariant-loop-next : goal.invariant-loop-next
invariant-loop-next l = record {
  keeps : KeepsClaims l.fn.seat l.seat;
  read : l.words.items ≡ l.fn.words.items ++ slice_range l.seat.floor l.first l.next;
  from_first : l.first ≤ l.next;
  few : l.next ≤ l.end;
  rises : IsAtMost l.fn.seat.floor l.seat.floor;
  bounds : AreBounds l.self.system l.seat.floor;
}

abbrev pub decreases-loop-next : goal.decreases-loop-next
decreases-loop-next l = l.end - l.next
