use Rattle.view_text.proofs.ByRun.{transit_told}
use Rattle.view_text.proofs.laws.messages_in_transit_are_those_of_the_run.Goals as goal

pub returns : goal.returns
returns c = transit_told
