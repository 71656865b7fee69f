use Rattle.std.proofs.Common.{◌≡◌, ℕ, ◌+◌, ◌-◌, ◌*◌, ◌<◌, ◌≤◌, length, get_or}
use Rattle.slice_graph.specs.PullLists.{order_entry}
use Rattle.slice_graph.proofs.growing.rows_behind.Given as goal

abbrev pub invariant-loop-position : goal.invariant-loop-position
invariant-loop-position l = record {
  from : l.first + 1 ≤ l.position;
  size : length l.rows.items ≡ (l.position - (l.first + 1)) * length l.order;
  each : (y j : ℕ) → y < l.position - (l.first + 1) → j < length l.order → get_or l.rows.items (y * length l.order + j) 0 ≡ order_entry l.order l.source j (l.first + 1 + y);
}
