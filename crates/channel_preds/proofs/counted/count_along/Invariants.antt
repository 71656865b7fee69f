use Rattle.channel_preds.specs.Channels.{events_at}
use Rattle.channel_preds.proofs.Counting.{CountedSoFar}
use Rattle.channel_preds.proofs.counted.count_along.Given as goal

abbrev pub invariant-loop-before : goal.invariant-loop-before
invariant-loop-before l = CountedSoFar l.which (events_at l.states l.process) l.before l.count l.counts.items
