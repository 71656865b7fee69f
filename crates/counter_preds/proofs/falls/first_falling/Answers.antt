use Rattle.counter_preds.proofs.Falling.{first_more, first_all}
use Rattle.counter_preds.proofs.falls.first_falling.Goals as goal

pub loop-counter-preserved : goal.loop-counter-preserved
loop-counter-preserved c =
    let found = c.first_lowering-first.ensures in
    first_more c.args.states.now c.args.batch.now c.args.counters.now c.loop-counter.counter-index c.loop-counter.first c.loop-counter.invariant _ c.loop-counter-test.true c.first_lowering-first.result
    found.within found.before found.falls

pub returns-clause-before : goal.returns-clause-before
returns-clause-before c = (first_all _ _ _ _ _ c.loop-counter.invariant c.loop-counter-test.false).before

pub returns-clause-falls : goal.returns-clause-falls
returns-clause-falls c = (first_all _ _ _ _ _ c.loop-counter.invariant c.loop-counter-test.false).falls
