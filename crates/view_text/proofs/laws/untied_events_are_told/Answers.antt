use Rattle.view_text.proofs.ByRun.{untied_told}
use Rattle.view_text.proofs.laws.untied_events_are_told.Goals as goal

pub returns : goal.returns
returns c = untied_told
