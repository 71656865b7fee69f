use Rattle.std.proofs.Common.{◌≡◌, ◌++◌}
use Rattle.pull_fans.specs.Fans.{pulls_of_fans}
use Rattle.certificate_nodes.proofs.systems.push_fans.Given as goal

abbrev pub invariant-loop-fan : goal.invariant-loop-fan
invariant-loop-fan l = pulls_of_fans l.fans ≡ pulls_of_fans l.initial.fans ++ pulls_of_fans l.yielded
