use Rattle.std.proofs.Common.{◌≡◌, ◌+◌, take}
use Rattle.pota_base.specs.Limits.{most_events}
use Rattle.event_log.specs.LogText.{event_count}
use Rattle.log_fitting.proofs.events.are_few.Given as goal

abbrev pub invariant-loop-batch : goal.invariant-loop-batch
invariant-loop-batch l = event_count (take l.batch-index l.batches) + l.left ≡ most_events
