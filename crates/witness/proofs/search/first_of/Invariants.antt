use Rattle.std.proofs.Common.{ℕ, ◌<◌, ◌≤◌}
use Rattle.witness.proofs.search.first_of.Given as goal

abbrev pub invariant-loop-before : goal.invariant-loop-before
invariant-loop-before g l = (a : ℕ) → 0 < a → a ≤ l.before → g.T.EventTest.holds l.test (record { process = l.process; position = a }) → ⊥
