use Rattle.std.proofs.Common.{◌≡◌, ℕ, ◌+◌, ◌<◌, ◌≤◌, true, false, get_or, length}
use Rattle.pull_system.specs.Marks.{marked}
use Rattle.certificate_raises.proofs.doubts.Doubts.add.Given as goal

abbrev pub invariant-loop-pull : goal.invariant-loop-pull
invariant-loop-pull l = record {
  count : length l.self-inside.marks ≡ length l.fn.self;
  added : (i : ℕ) → i < l.pull-index → get_or l.self-inside.marks (get_or l.pulls i 0) true ≡ true;
  kept : (k : ℕ) → get_or l.self-inside.marks k true ≡ false → get_or l.fn.self k true ≡ false;
  marked : marked l.self-inside.marks ≤ marked l.fn.self + l.pull-index;
}
