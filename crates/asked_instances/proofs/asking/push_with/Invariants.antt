use Rattle.std.proofs.Common.{◌≡◌, ◌++◌}
use Rattle.asked_instances.specs.Instances.{pairs_with}
use Rattle.asked_instances.proofs.asking.push_with.Given as goal

abbrev pub invariant-loop-second : goal.invariant-loop-second
invariant-loop-second l = l.pairs ≡ l.fn.pairs ++ pairs_with l.first l.second
