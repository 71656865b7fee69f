use Rattle.std.proofs.Common.{◌≡◌, ◌++◌, take}
use Rattle.pull_fans.specs.Fans.{pulls_of_fans}
use Rattle.least_holding.proofs.asking.push_pulls.Given as goal

abbrev pub invariant-loop-pull : goal.invariant-loop-pull
invariant-loop-pull l = pulls_of_fans l.fans ≡ pulls_of_fans l.fn.fans ++ take l.pull-index l.pulls
