use Rattle.std.proofs.Common.{ℕ, ◌<◌, ◌≤◌}
use Rattle.run_model.specs.Cut.{count}
use Rattle.slice_graph.proofs.cuts.is_within.Given as goal

abbrev pub invariant-loop-process : goal.invariant-loop-process
invariant-loop-process l = (k : ℕ) → k < l.process → count l.words k ≤ count l.counts k
