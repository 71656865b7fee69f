use Rattle.std.proofs.Common.{ℕ, ◌<◌, ◌+ℤ◌, ◌<ℤ◌}
use Rattle.counter_preds.specs.Counters.{value_at}
use Rattle.counter_preds.proofs.positions.first_from.Given as goal

abbrev pub invariant-loop-place : goal.invariant-loop-place
invariant-loop-place l = (y : ℕ) → y < l.place → (value_at l.follows y +ℤ l.extra) <ℤ l.bound
