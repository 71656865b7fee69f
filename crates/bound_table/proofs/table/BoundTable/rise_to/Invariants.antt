use Rattle.std.proofs.Common.{ℕ, ◌<◌, ◌≤◌, slice_index}
use Rattle.bound_table.specs.inside.Asking.{IsSettling}
use Rattle.bound_table.proofs.table.BoundTable.rise_to.Given as goal

abbrev pub invariant-loop-target : goal.invariant-loop-target
invariant-loop-target l = record {
  settling : IsSettling l.self l.row l.fn.seat l.seat l.vector;
  reached : l.x ≤ slice_index l.vector l.process;
  reaches : (process : ℕ) → process < l.target → slice_index l.asks process ≤ slice_index l.vector process;
}
