use Rattle.std.proofs.Common.{ℕ, ◌<◌}
use Rattle.run_model.specs.Cut.{count}
use Rattle.temporal_slice.specs.inside.Operands.{IsInRow}
use Rattle.temporal_slice.proofs.staying_in.shares_row.Given as goal

abbrev pub invariant-loop-process : goal.invariant-loop-process
invariant-loop-process l = (k : ℕ) → k < l.process → 0 < count l.row k → IsInRow l.child l.event.process l.event.position k (count l.row k) → ⊥
