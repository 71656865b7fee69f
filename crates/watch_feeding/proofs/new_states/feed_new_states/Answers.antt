use Rattle.std.proofs.Common.{◌∙◌, get_or, []}
use Rattle.watch_feeding.specs.Fed.{states_at}
use Rattle.watch_feeding.proofs.Longer.{number-is, begin_within, first_truths, grown_and_fed}
use Rattle.watch_feeding.proofs.Turns.{fed_behind}
use Rattle.watch_feeding.proofs.new_states.feed_new_states.Goals as goal

pub feed_watches-requires-clause-from : goal.feed_watches-requires-clause-from
feed_watches-requires-clause-from g c =
    begin_within c.args.watch_process.now c.args.rows.now c.lengthen_rows.new.rows c.as_slice.result.now (c.as_slice.ensures ∙ c.in_ok-lens.ensures.lens) c.requires.rows.count c.lengthen_rows.ensures.grown

pub returns-clause-fed : goal.returns-clause-fed
returns-clause-fed g c = λ w p before after on was will.
    let lens = c.as_slice.ensures ∙ c.in_ok-lens.ensures.lens in
    fed_behind (states_at c.args.states.now p) (get_or c.as_slice.result.now w 0) _ (get_or c.args.rows.now w [])
    ((goal.Watch-dyn g (before.watch.vtable, before.watch.value)).answers before.watch.value) (get_or c.feed_watches.new.rows w [])
    ((goal.Watch-dyn g (after.watch.vtable, after.watch.value)).answers after.watch.value)
    (first_truths c.args.watch_process.now c.args.rows.now c.lengthen_rows.new.rows c.as_slice.result.now w p on lens c.lengthen_rows.ensures.grown)
    (number-is c.args.rows.now c.as_slice.result.now w lens) (c.feed_watches.ensures.fed w p before after on was will)

pub returns-clause-grown : goal.returns-clause-grown
returns-clause-grown g c =
    grown_and_fed c.args.watch_process.now c.args.rows.now c.lengthen_rows.new.rows c.feed_watches.new.rows c.as_slice.result.now (c.as_slice.ensures ∙ c.in_ok-lens.ensures.lens) c.lengthen_rows.ensures.grown
    c.feed_watches.ensures.rows
