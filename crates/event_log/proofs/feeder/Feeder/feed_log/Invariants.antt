use Rattle.std.proofs.Common.{length}
use Rattle.event_log.proofs.FeedSteps.{ReadsTo}
use Rattle.event_log.proofs.feeder.Feeder.feed_log.Given as goal

abbrev pub invariant-lines : goal.invariant-lines
invariant-lines l = ReadsTo l.fn.self l.self l.fn.piece l.rest l.items

abbrev pub decreases-lines : goal.decreases-lines
decreases-lines l = length l.rest
