use Rattle.std.proofs.Common.{◌≡◌, ◌+◌, ◌-◌, ◌*◌, ◌≤◌, length, sum}
use Rattle.pull_system.specs.Vector.{IsAtMost}
use Rattle.bound_table.specs.inside.Asking.{IsAsking}
use Rattle.bound_table.proofs.table.BoundTable.close_row.Given as goal

abbrev pub invariant-loop-asked : goal.invariant-loop-asked
invariant-loop-asked g l = record {
  asking : IsAsking l.self l.row l.fn.seat l.seat l.vector l.seen;
  done : l.asked ≡ 0 → IsAtMost l.vector l.seen;
  looks : l.steps + length l.self.system.pulls * sum l.fn.vector ≤ l.fn.steps + length l.self.system.pulls * (1 + sum l.seen);
  pays : l.steps + length l.self.system.pulls * sum l.fn.seen ≤ l.fn.steps + length l.self.system.pulls * sum l.seen;
}

abbrev pub decreases-loop-asked : goal.decreases-loop-asked
decreases-loop-asked g l = 2 * (sum l.self.system.lens + length l.self.system.lens - sum l.seen) + l.asked
