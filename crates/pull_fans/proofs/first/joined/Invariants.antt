use Rattle.std.proofs.Common.{◌≡◌, ◌++◌}
use Rattle.pull_fans.proofs.first.joined.Given as goal

abbrev pub invariant-loop-fan : goal.invariant-loop-fan
invariant-loop-fan l = l.fans ≡ l.initial.fans ++ l.yielded
