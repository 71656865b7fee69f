use Rattle.std.proofs.Common.{◌∙◌, ◌+◌, [], ◌∷◌, ◌++◌, set, ap, sym, subst, arith}
use Rattle.std.specs.Prelude.{ℕ, List}
use Rattle.causal_order.proofs.Growing.{event_fits}
use Rattle.vector_clock.proofs.Placing.{PlacedSoFar, none_placed, placed_more, all_placed, list_is}
use Rattle.vector_clock.proofs.batch_clocks.places_in.Goals as goal

pub loop-i-init : goal.loop-i-init
loop-i-init c = none_placed c.args.procs c.args.batch.now _ c.in_ok-places.ensures

pub loop-i-preserved : goal.loop-i-preserved
loop-i-preserved c =
    let places = c.loop-i.places.items in
    let p = c.index-batch-i.result.process in
    let fits = event_fits c.args.procs c.args.batch.now c.loop-i.i c.index-batch-i.result c.requires.each c.loop-i-test.true c.index-batch-i.is in
    let own = list_is places p c.index_mut.result.now (omega (arith, fits.process, c.loop-i.invariant.count)) c.index_mut.ensures.value in
    subst (λ (xs : List ℕ). PlacedSoFar c.args.procs c.args.batch.now (set places p xs) (c.loop-i.i + 1)) (sym (c.in_ok-push.ensures.ok ∙ ap (λ (xs : List ℕ). xs ++ c.loop-i.i ∷ []) own))
    (placed_more c.args.procs c.args.batch.now places c.loop-i.i c.index-batch-i.result c.loop-i.invariant c.loop-i-test.true c.index-batch-i.is fits.process)

pub returns : goal.returns
returns c = all_placed c.args.procs c.args.batch.now c.loop-i.places.items c.loop-i.i c.loop-i.invariant (omega arith) (omega (arith, c.loop-i-test.false))
