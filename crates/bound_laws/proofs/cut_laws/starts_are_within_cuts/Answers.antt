use Rattle.bound_laws.proofs.Joining.{bottom_within, event_within}
use Rattle.bound_laws.proofs.cut_laws.starts_are_within_cuts.Goals as goal

pub returns-clause-bottom : goal.returns-clause-bottom
returns-clause-bottom c = bottom_within

pub returns-clause-event : goal.returns-clause-event
returns-clause-event c = event_within
