use Rattle.asked_observation.proofs.Staying.{answers}
use Rattle.asked_observation.proofs.laws.an_answer_is_the_lists.Goals as goal

pub returns : goal.returns
returns c = answers
