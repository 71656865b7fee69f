use Rattle.std.proofs.Common.{◌≡◌}
use Rattle.asked_instances.specs.Instances.{singles_below}
use Rattle.asked_instances.proofs.asking.singles.Given as goal

abbrev pub invariant-loop-first : goal.invariant-loop-first
invariant-loop-first l = l.pairs ≡ singles_below l.first
