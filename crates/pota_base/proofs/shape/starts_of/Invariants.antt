use Rattle.std.proofs.Common.{◌≡◌, ◌+◌, ◌≤◌, length, slice_index, sum, take, ℕ}
use Rattle.pota_base.proofs.shape.starts_of.Given as goal

abbrev pub invariant-loop-len : goal.invariant-loop-len
invariant-loop-len l = record {
  so_far : l.before ≡ sum (take l.len-index l.lens);
  count : length l.starts.items ≡ l.len-index + 1;
  each : (process : ℕ) → process ≤ l.len-index → slice_index l.starts.items process ≡ sum (take process l.lens);
}
