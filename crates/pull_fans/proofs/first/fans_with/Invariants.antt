use Rattle.std.proofs.Common.{◌≡◌, ◌+◌, length, take}
use Rattle.pull_fans.specs.Fans.{pulls_of_fans}
use Rattle.pull_fans.proofs.first.fans_with.Given as goal

abbrev pub invariant-loop-number : goal.invariant-loop-number
invariant-loop-number l = l.left + length (pulls_of_fans (take l.number l.fans)) ≡ l.pulls
