use Rattle.std.proofs.Common.{◌≡◌, ◌++◌, take}
use Rattle.pull_fans.specs.Fans.{pulls_of_fans}
use Rattle.certificate_nodes.proofs.systems.push_pulls.Given as goal

abbrev pub invariant-loop-pull : goal.invariant-loop-pull
invariant-loop-pull l = pulls_of_fans l.fans ≡ pulls_of_fans l.initial.fans ++ take l.pull-index l.pulls
