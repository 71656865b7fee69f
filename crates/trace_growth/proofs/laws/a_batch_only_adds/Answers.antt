use Rattle.vector_clock.proofs.FilledBatches.{filled_fits}
use Rattle.trace_growth.specs.Growing.{filled_for}
use Rattle.trace_growth.proofs.Taken.{clocks_grow, states_grow, faultless_more, is_trace}
use Rattle.trace_growth.proofs.laws.a_batch_only_adds.Goals as goal

pub returns-clause-adds : goal.returns-clause-adds
returns-clause-adds c = λ trace batch is fits.
    let each = filled_fits trace.states.events batch fits.each in
    (clocks_grow trace.states.events (filled_for trace batch) each, states_grow trace.states (filled_for trace batch) is each)

pub returns-clause-again : goal.returns-clause-again
returns-clause-again c = λ trace batch is fits none.
    is_trace _ is.whole.header (faultless_more trace.states (filled_for trace batch) is.faultless (filled_fits trace.states.events batch fits.each) none)
