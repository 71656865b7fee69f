use Rattle.std.proofs.Common.{◌≡◌, ℕ, ◌-◌, ◌<◌, ◌≤◌, slice_index}
use Rattle.pull_system.proofs.pull.rises_within.Given as goal

abbrev pub invariant-loop-entry : goal.invariant-loop-entry
invariant-loop-entry l = record {
  within : l.before ≤ l.most;
  least : l.entry-index ≡ 0 → l.before ≡ 0;
  last : 0 < l.entry-index → l.before ≡ slice_index l.table (l.entry-index - 1);
  below : (x : ℕ) → x < l.entry-index → slice_index l.table x ≤ l.before;
  rises : (x y : ℕ) → x ≤ y → y < l.entry-index → slice_index l.table x ≤ slice_index l.table y;
}
