use Rattle.run_model.proofs.Counts.{length-lengths}
use Rattle.slice_graph.proofs.Kept.{bottom_kept, event_kept}
use Rattle.slice_graph.proofs.laws.least_or_none.Goals as goal

pub returns-clause-bottom : goal.returns-clause-bottom
returns-clause-bottom c = λ o system lens. bottom_kept o system lens (length-lengths o)

pub returns-clause-event : goal.returns-clause-event
returns-clause-event c = λ o system lens. event_kept o system lens (length-lengths o)
