use Rattle.shown_events.proofs.Counts.{truth_is, others_change_nothing}
use Rattle.shown_events.proofs.other_events_change_nothing.Goals as goal

pub returns-clause-truth : goal.returns-clause-truth
returns-clause-truth c = truth_is

pub returns-clause-same : goal.returns-clause-same
returns-clause-same c = others_change_nothing
