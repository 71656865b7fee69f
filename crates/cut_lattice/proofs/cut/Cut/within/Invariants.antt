use Rattle.std.proofs.Common.{ℕ, ◌<◌, ◌≤◌}
use Rattle.run_model.specs.Cut.{count}
use Rattle.cut_lattice.proofs.cut.Cut.within.Given as goal

abbrev pub invariant-loop-i : goal.invariant-loop-i
invariant-loop-i l = (k : ℕ) → k < l.i → count l.fn.self k ≤ count l.fn.other k
