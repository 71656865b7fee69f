use Rattle.std.proofs.Common.{◌≡◌, take}
use Rattle.clock_laws.specs.Joined.{as_one}
use Rattle.kept_log.specs.inside.Counted.{first_row, row_with_all}
use Rattle.kept_log.proofs.counts.counts_of.Given as goal

abbrev pub invariant-loop-batch : goal.invariant-loop-batch
invariant-loop-batch l = l.row ≡ row_with_all l.numbers (first_row l.process) (as_one (take l.batch-index l.batches))
