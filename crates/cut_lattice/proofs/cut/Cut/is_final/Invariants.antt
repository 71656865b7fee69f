use Rattle.std.proofs.Common.{◌≡◌, ℕ, ◌<◌}
use Rattle.run_model.specs.Cut.{count}
use Rattle.cut_lattice.proofs.cut.Cut.is_final.Given as goal

abbrev pub invariant-loop-process : goal.invariant-loop-process
invariant-loop-process l = (k : ℕ) → k < l.process → count l.self k ≡ count l.shape k
