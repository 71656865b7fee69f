use Rattle.std.proofs.Common.{ℕ, ◌≡◌, ◌+◌, ◌<◌, ◌≤◌, length, slice_index}
use Rattle.pull_fans.proofs.Asking.{pulls_from_first}
use Rattle.bound_table.specs.inside.Asking.{IsSettling, HoldSeen}
use Rattle.bound_table.proofs.table.BoundTable.ask_all.Given as goal

abbrev pub invariant-loop-process : goal.invariant-loop-process
invariant-loop-process g l = record {
  settling : IsSettling l.self l.row l.fn.seat l.seat l.vector;
  size : length l.seen ≡ length l.self.system.lens;
  within : (process : ℕ) → process < l.process → slice_index l.seen process ≤ slice_index l.vector process;
  held : HoldSeen l.self.system l.process l.seen l.vector;
  reaches : (process : ℕ) → process < l.process → slice_index l.fn.vector process ≤ slice_index l.seen process;
  looks : l.steps ≡ l.fn.steps + pulls_from_first l.self.system.pulls (length l.self.system.pulls) l.process;
}
