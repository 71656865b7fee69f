use Rattle.std.proofs.Common.{◌≡◌, ℕ, ◌<◌, ◌≤◌, false}
use Rattle.run_model.specs.Cut.{count}
use Rattle.vector_clock.proofs.beyond.are_same_in.Given as goal

abbrev pub invariant-loop-j : goal.invariant-loop-j
invariant-loop-j l = l.differ ≡ false → (k : ℕ) → l.start ≤ k → k < l.j → count l.second k ≡ count l.first k
