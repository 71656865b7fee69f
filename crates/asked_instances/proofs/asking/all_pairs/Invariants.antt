use Rattle.std.proofs.Common.{◌≡◌}
use Rattle.asked_instances.specs.Instances.{pairs_below}
use Rattle.asked_instances.proofs.asking.all_pairs.Given as goal

abbrev pub invariant-loop-first : goal.invariant-loop-first
invariant-loop-first l = l.pairs ≡ pairs_below l.procs l.first
