use Rattle.std.proofs.Common.{◌≡◌, ◌++◌, map}
use Rattle.std.specs.List.{range_with_len}
use Rattle.pull_fans.specs.Fans.{pull_of_fan}
use Rattle.pull_fans.proofs.fan.Fan.push_pulls.Given as goal

abbrev pub invariant-loop-index : goal.invariant-loop-index
invariant-loop-index l = l.pulls ≡ l.fn.pulls ++ map (pull_of_fan l.self) (range_with_len 0 l.index)
