use Rattle.std.proofs.Common.{◌≡◌, ℕ}
use Rattle.std.specs.Prelude.{nat_lt}
use Rattle.run_model.specs.Cut.{count}
use Rattle.vector_clock.specs.Events.{some_below}
use Rattle.vector_clock.proofs.beyond.is_beyond.Given as goal

abbrev pub invariant-loop-j : goal.invariant-loop-j
invariant-loop-j l = l.beyond ≡ some_below l.j (λ (k : ℕ). nat_lt (count l.second k) (count l.first k))
