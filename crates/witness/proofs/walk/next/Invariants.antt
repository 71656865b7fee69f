use Rattle.std.proofs.Common.{ℕ, ◌<◌}
use Rattle.run_model.specs.Cut.{with_next}
use Rattle.witness.proofs.walk.next.Given as goal

abbrev pub invariant-loop-process : goal.invariant-loop-process
invariant-loop-process g l = (j : ℕ) → j < l.process → g.W.Way.holds l.way (with_next l.at j) → ⊥
