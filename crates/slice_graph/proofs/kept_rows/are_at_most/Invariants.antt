use Rattle.std.proofs.Common.{◌≡◌, ℕ, ◌<◌, ◌≤◌}
use Rattle.std.specs.Prelude.{slice_index}
use Rattle.slice_graph.proofs.kept_rows.are_at_most.Given as goal

abbrev pub invariant-loop-i : goal.invariant-loop-i
invariant-loop-i l = l.excess ≡ 0 → (k : ℕ) → k < l.i → slice_index l.words k ≤ slice_index l.others k
