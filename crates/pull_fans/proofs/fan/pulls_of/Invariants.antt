use Rattle.std.proofs.Common.{◌≡◌, take}
use Rattle.pull_fans.specs.Fans.{pulls_of_fans}
use Rattle.pull_fans.proofs.fan.pulls_of.Given as goal

abbrev pub invariant-loop-fan : goal.invariant-loop-fan
invariant-loop-fan l = l.pulls ≡ pulls_of_fans (take l.fan-index l.fans)
