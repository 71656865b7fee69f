use Rattle.std.proofs.Common.{ℕ, ◌<◌, ◌≤◌}
use Rattle.run_model.specs.Cut.{count}
use Rattle.torn_log.proofs.sends.is_within.Given as goal

abbrev pub invariant-loop-i : goal.invariant-loop-i
invariant-loop-i l = (k : ℕ) → k < l.i → count l.clock k ≤ count l.cut k
