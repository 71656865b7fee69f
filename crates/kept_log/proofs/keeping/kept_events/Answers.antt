use Rattle.std.proofs.Common.{◌++◌, List, sym, ap, ◌∙◌}
use Rattle.event_log.specs.declared.log.Event.{Event}
use Rattle.kept_log.specs.inside.Counted.{events_by}
use Rattle.kept_log.proofs.Steps.{batch_more}
use Rattle.kept_log.proofs.keeping.kept_events.Goals as goal

pub loop-batch-preserved : goal.loop-batch-preserved
loop-batch-preserved c =
    let b = c.batch-item.result in
    c.in_ok-kept.ensures
    ∙ ap (λ (es : List Event). c.loop-batch.kept ++ events_by c.args.numbers.now c.args.counts.now es) c.as_slice.ensures
    ∙ ap (λ (es : List Event). es ++ events_by c.args.numbers.now c.args.counts.now b) c.loop-batch.invariant
    ∙ sym (batch_more c.args.numbers.now c.args.counts.now c.args.batches.now c.loop-batch.batch-index b c.loop-batch-test.true c.batch-item.is)
