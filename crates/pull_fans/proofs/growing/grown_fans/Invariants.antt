use Rattle.std.proofs.Common.{◌≡◌, map}
use Rattle.pull_fans.specs.inside.Growing.{grown_fan}
use Rattle.pull_fans.proofs.growing.grown_fans.Given as goal

abbrev pub invariant-loop-fan : goal.invariant-loop-fan
invariant-loop-fan l = l.grown ≡ map (grown_fan l.shape l.more) l.yielded
