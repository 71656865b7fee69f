use Rattle.std.proofs.Common.{◌+◌, ◌<◌, ◌≤◌, ◌≡◌, length, arith, sym, subst, ◌∙◌, List, ℕ}
use Rattle.std.specs.Prelude.{true, false}
use Rattle.pota_base.specs.Limits.{most_events}
use Rattle.channel_preds.specs.Channels.{events_at}
use Rattle.channel_preds.specs.inside.Channels.{AreCounts}
use Rattle.channel_preds.proofs.Counting.{CountedSoFar, counted_more, counted_all, counts_are, length-counts_of, length-events_at, few_events}
use Rattle.channel_preds.proofs.counted.count_along.Goals as goal
use Rattle.channel_preds.proofs.counted.count_along.Goals.{then-has, else-has}

pub loop-before-preserved : goal.loop-before-preserved
loop-before-preserved c =
    let size = length-events_at c.args.states.now _ c.args.process _ c.requires c.shape.ensures c.len_of-len.ensures.len in
    let there : c.loop-before.before < length (events_at c.args.states.now c.args.process) = omega (arith, size, c.loop-before-test.true) in
    rw c.in_ok-push-2.ensures.items (elim c.if-has.branch [
      | then-has w ↦ counted_more c.args.which (events_at c.args.states.now c.args.process) _ _ _ c.event-event.result.now true there c.event-event.ensures (sym c.has.ensures ∙ w.if-has.true) c.loop-before.invariant _ w.count-is
      | else-has w ↦ counted_more c.args.which (events_at c.args.states.now c.args.process) _ _ _ c.event-event.result.now false there c.event-event.ensures (sym c.has.ensures ∙ w.if-has.false) c.loop-before.invariant _ w.count-is
    ])

pub returns-clause-told : goal.returns-clause-told
returns-clause-told c =
    let size = length-events_at c.args.states.now _ c.args.process _ c.requires c.shape.ensures c.len_of-len.ensures.len in
    c.from_vec.ensures ∙ counted_all _ _ _ _ _ (omega (arith, size, c.loop-before-test.false)) c.loop-before.invariant

pub returns-clause-counts : goal.returns-clause-counts
returns-clause-counts c = subst AreCounts (sym (returns-clause-told c)) (counts_are _ _)

pub returns-clause-few : goal.returns-clause-few
returns-clause-few c =
    let few = few_events c.args.states.now _ c.args.process c.requires c.shape.ensures c.len_of-len.ensures.shape in
    let P : List ℕ → Type 0 = λ counts. length counts ≤ most_events + 1 in
    subst P (sym (returns-clause-told c)) (omega (arith, few, length-counts_of c.args.which (events_at c.args.states.now c.args.process)))
