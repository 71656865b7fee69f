use Rattle.answering.proofs.Going.{settled_at}
use Rattle.answering.proofs.answering.Answering.settled.Goals as goal

pub returns-clause-settled : goal.returns-clause-settled
returns-clause-settled c = λ seen cs is. settled_at seen cs _ _ _ is c.get.ensures.item
