use Rattle.question_outcome.proofs.Agreeing.{same_answer, same_places}
use Rattle.question_outcome.proofs.laws.outcomes_agree.Goals as goal

pub returns-clause-holds : goal.returns-clause-holds
returns-clause-holds c r names form own a b h k = same_answer r names form own a b h k

pub returns-clause-nowhere : goal.returns-clause-nowhere
returns-clause-nowhere c r names form own a b h k = same_places r names form own a b h k
