use Rattle.answering.proofs.Going.{goes_on_anew}
use Rattle.answering.proofs.answering.Answering.new.Goals as goal

pub returns-clause-goes_on : goal.returns-clause-goes_on
returns-clause-goes_on c = λ growing. goes_on_anew _ growing c.new.ensures.settled c.new.ensures.system
