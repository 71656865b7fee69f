use Rattle.same_answers.proofs.Alike.{the_same_is_answered}
use Rattle.same_answers.proofs.the_same_is_answered.Goals as goal

pub returns : goal.returns
returns c = the_same_is_answered
