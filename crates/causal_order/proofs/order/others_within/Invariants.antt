use Rattle.std.proofs.Common.{◌≡◌, ℕ, ◌<◌, ◌≤◌}
use Rattle.run_model.specs.Cut.{count}
use Rattle.causal_order.proofs.order.others_within.Given as goal

abbrev pub invariant-loop-j : goal.invariant-loop-j
invariant-loop-j l = (k : ℕ) → k < l.j → (k ≡ l.process → ⊥) → count l.clock k ≤ count l.cut k
