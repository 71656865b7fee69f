use Rattle.std.proofs.Common.{◌≡◌}
use Rattle.clock_laws.specs.Joined.{as_one}
use Rattle.kept_log.specs.inside.Counted.{all_counts}
use Rattle.kept_log.proofs.counts.all_counts.Given as goal

abbrev pub invariant-loop-process : goal.invariant-loop-process
invariant-loop-process l = l.counts ≡ all_counts l.numbers (as_one l.batches) l.process
