use Rattle.std.proofs.Common.{ℕ, ◌≡◌, ◌<◌, ◌≤◌, length}
use Rattle.run_model.specs.Cut.{count}
use Rattle.least_holding.proofs.finding.cut_of.Given as goal

abbrev pub invariant-loop-process : goal.invariant-loop-process
invariant-loop-process l = record {
  size : length l.cut ≡ length l.lens;
  done : (k : ℕ) → k < l.process → count l.cut k ≡ count l.vector k;
  within : (k : ℕ) → k < l.process → count l.vector k ≤ count l.lens k;
}
