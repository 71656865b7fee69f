use Rattle.conjunctions.proofs.OneAnswer as law
use Rattle.conjunctions.proofs.laws.one_answer.Goals as goal

pub returns : goal.returns
returns c = law.one_answer
