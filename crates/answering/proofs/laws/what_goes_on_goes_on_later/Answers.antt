use Rattle.answering.proofs.Going.{goes_on_later}
use Rattle.answering.proofs.laws.what_goes_on_goes_on_later.Goals as goal

pub returns : goal.returns
returns c = goes_on_later
