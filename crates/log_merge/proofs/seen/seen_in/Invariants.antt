use Rattle.std.proofs.Common.{◌≡◌, drop}
use Rattle.log_merge.specs.Sources.{own_event_lines, all_events}
use Rattle.log_merge.specs.inside.Sources.{seen_after}
use Rattle.log_merge.proofs.seen.seen_in.Given as goal

abbrev pub invariant-loop-batch : goal.invariant-loop-batch
invariant-loop-batch l = seen_after l.seen (own_event_lines (all_events (drop l.batch-index l.source.batches))) ≡ seen_after l.initial.seen (own_event_lines (all_events l.source.batches))
