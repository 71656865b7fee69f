use Rattle.std.proofs.Common.{◌≡◌, ◌<◌, ◌≤◌, ℕ, max, get_or}
use Rattle.pull_fans.proofs.fan.raise_each.Given as goal

abbrev pub invariant-loop-i : goal.invariant-loop-i
invariant-loop-i l = record {
  raised : (k : ℕ) → k < l.i → get_or l.row k 0 ≡ max (get_or l.fn.row k 0) (get_or l.asked k 0);
  left : (k : ℕ) → l.i ≤ k → get_or l.row k 0 ≡ get_or l.fn.row k 0;
}
