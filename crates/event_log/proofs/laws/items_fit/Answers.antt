use Rattle.event_log.proofs.FittingItems as fitting
use Rattle.event_log.proofs.laws.items_fit.Goals as goal

pub returns : goal.returns
returns c = fitting.items_fit
