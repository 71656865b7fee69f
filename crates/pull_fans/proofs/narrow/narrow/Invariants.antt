use Rattle.std.proofs.Common.{◌≡◌, ◌<◌, ℕ, length, get_or}
use Rattle.pull_fans.proofs.narrow.narrow.Given as goal

abbrev pub invariant-loop-i : goal.invariant-loop-i
invariant-loop-i l = record {
  size : length l.places ≡ length l.row;
  written : (k : ℕ) → k < l.i → get_or l.places k 0 ≡ get_or l.row k 0;
}
