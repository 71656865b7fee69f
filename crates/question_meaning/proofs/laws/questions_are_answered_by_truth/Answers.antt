use Rattle.question_meaning.proofs.Answers.{answered}
use Rattle.question_meaning.proofs.laws.questions_are_answered_by_truth.Goals as goal

pub returns : goal.returns
returns c = answered
