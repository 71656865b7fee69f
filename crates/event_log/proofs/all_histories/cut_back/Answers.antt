use Rattle.std.proofs.Common.{◌≡◌, ◌+◌, ◌<◌, length, get_or, arith, ◌∙◌, ap, sym, subst, set}
use Rattle.event_log.specs.inside.Places.{PlacedHistory, first_of, unplaced}
use Rattle.event_log.proofs.Placing.{CutBelow, cut_more, cut_all, history_is}
use Rattle.event_log.proofs.all_histories.cut_back.Goals as goal

pub truncate-requires : goal.truncate-requires
truncate-requires c =
    let there : c.loop-process.process < length c.loop-process.each.items = omega (arith, c.loop-process-test.true, c.procs-process-end.ensures.count, c.requires.count, c.loop-process.invariant.count) in
    let read = history_is c.loop-process.each.items c.loop-process.process c.index_mut.result.now there c.index_mut.ensures.value ∙ c.loop-process.invariant.above c.loop-process.process (omega arith) in
    omega (arith, c.requires.fits c.loop-process.process, c.len_of-len.ensures.len, ap (λ (h : PlacedHistory). length h.places) read)

pub loop-process-preserved : goal.loop-process-preserved
loop-process-preserved c =
    let there : c.loop-process.process < length c.loop-process.each.items = omega (arith, c.loop-process-test.true, c.procs-process-end.ensures.count, c.requires.count, c.loop-process.invariant.count) in
    let read = history_is c.loop-process.each.items c.loop-process.process c.index_mut.result.now there c.index_mut.ensures.value in
    let cut : c.truncate.new.self ≡ first_of (get_or c.loop-process.each.items c.loop-process.process unplaced) c.len_of-len.result =
    c.truncate.ensures ∙ ap (λ (h : PlacedHistory). first_of h c.len_of-len.result) read in
    subst (λ (h : PlacedHistory). CutBelow c.args.shape.now c.args.each.now.items (c.loop-process.process + 1) (set c.loop-process.each.items c.loop-process.process h)) (sym cut)
    (cut_more _ _ _ _ _ c.loop-process.invariant there c.len_of-len.ensures.len)

pub returns : goal.returns
returns c = λ before longer rows lens. cut_all _ before _ _ _ c.loop-process.invariant (omega (arith, c.loop-process-test.false, c.procs-process-end.ensures.count, c.requires.count)) longer rows lens
