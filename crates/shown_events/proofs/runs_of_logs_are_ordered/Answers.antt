use Rattle.shown_events.proofs.Logs.{logs_are_ordered}
use Rattle.shown_events.proofs.runs_of_logs_are_ordered.Goals as goal

pub returns : goal.returns
returns c = logs_are_ordered
