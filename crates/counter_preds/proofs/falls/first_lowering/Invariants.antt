use Rattle.std.proofs.Common.{◌≡◌, ℕ, ◌<◌, false, take}
use Rattle.counter_preds.specs.Falls.{value_now, behind_batch}
use Rattle.counter_preds.specs.inside.Falls.{falls_at}
use Rattle.counter_preds.proofs.falls.first_lowering.Given as goal

abbrev pub invariant-loop-place : goal.invariant-loop-place
invariant-loop-place l = record {
  value : l.value ≡ value_now (behind_batch l.states (take l.place l.batch)) l.counter;
  before : (k : ℕ) → k < l.place → falls_at l.states l.batch l.counter k ≡ false;
}
