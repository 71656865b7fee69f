use Rattle.std.proofs.Common.{◌≡◌, ◌+◌, ◌<◌, get_or, ◌∙◌, ap, sym, subst, set, List}
use Rattle.event_log.specs.declared.log.Assign.{Assign}
use Rattle.event_log.specs.inside.Places.{PlacedHistory, unplaced, with_place}
use Rattle.std.specs.List.{AllByRecursion}
use Rattle.event_log.proofs.Placing.{NotedSoFar, noted_none, noted_more, next_place, history_is}
use Rattle.event_log.proofs.all_histories.note_batch.Goals as goal

pub loop-i-init : goal.loop-i-init
loop-i-init c = noted_none _ _ _

pub push-requires : goal.push-requires
push-requires c =
    let e = c.index-batch-i.result in
    let next = next_place c.args.each.now.items c.args.start c.args.batch.now c.loop-i.i c.loop-i.each.items e c.loop-i.invariant c.requires.room c.loop-i-test.true c.index-batch-i.is in
    let read = history_is c.loop-i.each.items e.process c.index_mut-history.result.now next.process c.index_mut-history.ensures.value in
    let wide = subst (λ (h : PlacedHistory). AllByRecursion (λ (a : Assign). a.variable < h.width) e.assigns) (sym read) next.assigns in
    subst (λ (as_ : List Assign). AllByRecursion (λ (a : Assign). a.variable < c.index_mut-history.result.now.width) as_) (sym c.as_slice.ensures) wide

pub loop-i-preserved : goal.loop-i-preserved
loop-i-preserved c =
    let e = c.index-batch-i.result in
    let each = c.loop-i.each.items in
    let next = next_place c.args.each.now.items c.args.start c.args.batch.now c.loop-i.i each e c.loop-i.invariant c.requires.room c.loop-i-test.true c.index-batch-i.is in
    let read = history_is each e.process c.index_mut-history.result.now next.process c.index_mut-history.ensures.value in
    let pushed : c.push.new.self ≡ with_place (get_or each e.process unplaced) (c.args.start + c.loop-i.i) e.assigns =
    c.in_ok-push.ensures.ok ∙ ap (λ (as_ : List Assign). with_place c.index_mut-history.result.now (c.args.start + c.loop-i.i) as_) c.as_slice.ensures
    ∙ ap (λ (h : PlacedHistory). with_place h (c.args.start + c.loop-i.i) e.assigns) read in
    subst (λ (h : PlacedHistory). NotedSoFar c.args.each.now.items c.args.start c.args.batch.now (c.loop-i.i + 1) (set each e.process h)) (sym pushed)
    (noted_more c.args.each.now.items c.args.start c.args.batch.now c.loop-i.i each e c.loop-i.invariant c.loop-i-test.true c.index-batch-i.is next.process)
