use Rattle.std.proofs.Common.{◌≡◌, ◌++◌, take}
use Rattle.kept_log.specs.inside.Counted.{events_by}
use Rattle.kept_log.proofs.keeping.with_kept.Given as goal

abbrev pub invariant-loop-event : goal.invariant-loop-event
invariant-loop-event l = l.kept ≡ l.fn.kept ++ events_by l.numbers l.counts (take l.event-index l.batch)
