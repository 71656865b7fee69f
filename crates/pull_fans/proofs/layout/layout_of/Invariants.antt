use Rattle.std.proofs.Common.{◌≡◌, ◌+◌, ◌<◌, ◌≤◌, ℕ, get_or}
use Rattle.pull_fans.proofs.layout.layout_of.Given as goal

abbrev pub invariant-loop-i : goal.invariant-loop-i
invariant-loop-i l = record {
  before : (k : ℕ) → k < l.i → k < l.src → get_or l.targets k 0 ≡ k;
  behind : (k : ℕ) → k < l.i → l.src ≤ k → get_or l.targets k 0 ≡ k + 1;
}
