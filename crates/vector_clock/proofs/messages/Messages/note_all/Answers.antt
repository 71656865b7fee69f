use Rattle.std.proofs.Common.{◌≡◌, ℕ, ◌<◌, length, take, ap, sym, ◌∙◌, subst, arith}
use Rattle.std.specs.Prelude.{List}
use Rattle.std.specs.List.{AllByRecursion}
use Rattle.event_log.specs.States.{with_batch}
use Rattle.vector_clock.specs.Admitted.{HasMessages}
use Rattle.vector_clock.specs.Events.{EventFits}
use Rattle.vector_clock.specs.inside.Events.{raised}
use Rattle.vector_clock.proofs.Below.{count_is}
use Rattle.vector_clock.proofs.Counting.{is_next, counts_next, one_fits, front_fits, no_batch, raised_none, length-raised, lens_raised, few_taken}
use Rattle.vector_clock.proofs.messages.Messages.note_all.Goals as goal

pub loop-i-init : goal.loop-i-init
loop-i-init c = record { counts = sym (raised_none c.args.taken.now.items c.args.batch.now); has = λ events h t. subst (HasMessages c.args.self.now) (sym (no_batch events c.args.batch.now)) h }

pub index-requires : goal.index-requires
index-requires c =
    let fits = one_fits _ c.args.batch.now c.loop-i.i c.index-batch-i.result c.requires.each c.loop-i-test.true c.index-batch-i.is in
    omega (arith, fits.clock.process, ap length c.loop-i.invariant.counts, length-raised c.args.taken.now.items (take c.loop-i.i c.args.batch.now))

pub overflow_add-place : goal.overflow_add-place
overflow_add-place c =
    let fits = one_fits _ c.args.batch.now c.loop-i.i c.index-batch-i.result c.requires.each c.loop-i-test.true c.index-batch-i.is in
    let there : c.index-batch-i.result.process < length c.loop-i.taken.items =
    omega (arith, fits.clock.process, ap length c.loop-i.invariant.counts, length-raised c.args.taken.now.items (take c.loop-i.i c.args.batch.now)) in
    let few = few_taken c.args.taken.now.items c.loop-i.taken.items c.args.batch.now c.loop-i.i c.index-batch-i.result.process c.loop-i.invariant.counts c.requires.few in
    let read = count_is c.loop-i.taken.items c.index-batch-i.result.process c.index.result.now there c.index.ensures in
    grind (arith, few, read)

pub index_mut-requires : goal.index_mut-requires
index_mut-requires c =
    let fits = one_fits _ c.args.batch.now c.loop-i.i c.index-batch-i.result c.requires.each c.loop-i-test.true c.index-batch-i.is in
    omega (arith, fits.clock.process, ap length c.loop-i.invariant.counts, length-raised c.args.taken.now.items (take c.loop-i.i c.args.batch.now))

pub loop-i-preserved : goal.loop-i-preserved
loop-i-preserved c =
    let fits = one_fits _ c.args.batch.now c.loop-i.i c.index-batch-i.result c.requires.each c.loop-i-test.true c.index-batch-i.is in
    let there : c.index-batch-i.result.process < length c.loop-i.taken.items =
    omega (arith, fits.clock.process, ap length c.loop-i.invariant.counts, length-raised c.args.taken.now.items (take c.loop-i.i c.args.batch.now)) in
    record {
      counts = counts_next c.args.batch.now c.args.taken.now.items c.loop-i.taken.items c.loop-i.i c.index-batch-i.result c.index.result.now c.loop-i-test.true c.index-batch-i.is there c.loop-i.invariant.counts c.index.ensures;
      has = λ events h t.
          let next = is_next events c.args.batch.now c.args.taken.now.items c.loop-i.taken.items c.loop-i.i c.index-batch-i.result c.index.result.now c.loop-i-test.true c.index-batch-i.is there c.loop-i.invariant.counts t c.index.ensures in
          subst (HasMessages c.note.new.self) (sym next.next) (c.in-Ok.ensures.ok (with_batch events (take c.loop-i.i c.args.batch.now)) (c.loop-i.invariant.has events h t) next.there next.place_is);
    }

pub forget_all-requires : goal.forget_all-requires
forget_all-requires c =
    let count : length c.loop-i.taken.items ≡ length c.args.taken.now.items = ap length c.loop-i.invariant.counts ∙ length-raised c.args.taken.now.items (take c.loop-i.i c.args.batch.now) in
    front_fits _ c.args.batch.now c.loop-i.i (subst (λ (n : ℕ). AllByRecursion (EventFits n) c.args.batch.now) (sym count) c.requires.each)

pub returns-in-Err-clause-err : goal.returns-in-Err-clause-err
returns-in-Err-clause-err c = λ events h t.
    let before = with_batch events (take c.loop-i.i c.args.batch.now) in
    c.forget_all.ensures events (c.in-Err.ensures.err before (c.loop-i.invariant.has events h t))
    (c.loop-i.invariant.counts ∙ ap (λ (xs : List ℕ). raised xs (take c.loop-i.i c.args.batch.now)) t ∙ sym (lens_raised events (take c.loop-i.i c.args.batch.now)))
