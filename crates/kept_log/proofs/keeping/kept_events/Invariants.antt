use Rattle.std.proofs.Common.{◌≡◌, take}
use Rattle.clock_laws.specs.Joined.{as_one}
use Rattle.kept_log.specs.inside.Counted.{events_by}
use Rattle.kept_log.proofs.keeping.kept_events.Given as goal

abbrev pub invariant-loop-batch : goal.invariant-loop-batch
invariant-loop-batch l = l.kept ≡ events_by l.numbers l.counts (as_one (take l.batch-index l.batches))
