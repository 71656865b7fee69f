use Rattle.std.proofs.Common.{ℕ, ◌≡◌, ◌+◌, ◌<◌, ◌≤◌, length, slice_index}
use Rattle.pull_fans.proofs.Asking.{pulls_from_first}
use Rattle.bound_table.specs.inside.Asking.{IsAsking, SeesMore}
use Rattle.bound_table.proofs.table.BoundTable.ask_risen.Given as goal

abbrev pub invariant-loop-process : goal.invariant-loop-process
invariant-loop-process g l = record {
  asking : IsAsking l.self l.row l.fn.seat l.seat l.vector l.seen;
  done : l.asked ≡ 0 → (process : ℕ) → process < l.process → slice_index l.vector process ≤ slice_index l.seen process;
  reaches : (process : ℕ) → process < l.process → slice_index l.fn.vector process ≤ slice_index l.seen process;
  few : l.asked ≤ l.process;
  sees : SeesMore (length l.self.system.pulls) l.asked l.fn.steps l.steps l.fn.seen l.seen;
  looks : l.steps ≤ l.fn.steps + pulls_from_first l.self.system.pulls (length l.self.system.pulls) l.process;
}
