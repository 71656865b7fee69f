use Rattle.std.proofs.Common.{◌≡◌, ℕ, ◌<◌, ◌≤◌, max, false}
use Rattle.run_model.specs.Cut.{count}
use Rattle.vector_clock.proofs.beyond.is_join_in.Given as goal

abbrev pub invariant-loop-j : goal.invariant-loop-j
invariant-loop-j l = l.differ ≡ false → (k : ℕ) → l.start ≤ k → k < l.j → count l.clock k ≡ max (count l.first k) (count l.second k)
