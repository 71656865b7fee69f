use Rattle.std.proofs.Common.{◌≡◌, ◌+◌, ◌<◌, ℕ, get_or}
use Rattle.pull_fans.proofs.fan.run_end.Given as goal

abbrev pub invariant-loop-i : goal.invariant-loop-i
invariant-loop-i l = (k : ℕ) → l.first + k < l.i → get_or l.targets (l.first + k) 0 ≡ get_or l.targets l.first 0 + k
