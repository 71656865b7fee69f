use Rattle.std.proofs.Common.{ℕ, ◌<◌, ◌≤◌, slice_index}
use Rattle.bound_table.specs.inside.Asking.{IsSettling}
use Rattle.bound_table.specs.inside.Lending.{MayLend}
use Rattle.bound_table.proofs.table.BoundTable.lend_row.Given as goal

abbrev pub invariant-loop-process : goal.invariant-loop-process
invariant-loop-process l = record {
  settling : IsSettling l.self l.row l.fn.seat l.seat l.vector;
  lent : MayLend l.self.system.lens l.seat.floor l.before l.row l.lent;
  reaches : (process : ℕ) → process < l.process → slice_index l.lent process ≤ slice_index l.vector process;
}
