use Rattle.std.proofs.Common.{ℕ, ◌<◌, ◌≤◌}
use Rattle.run_model.specs.Cut.{count, with_next}
use Rattle.witness.proofs.ways.is_within_next.Given as goal

abbrev pub invariant-loop-other : goal.invariant-loop-other
invariant-loop-other l = (j : ℕ) → j < l.other → count l.counts j ≤ count (with_next l.at l.process) j
