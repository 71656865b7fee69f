use Rattle.question_forms.proofs.Answered.{question_answered}
use Rattle.question_forms.proofs.laws.questions_are_answered.Goals as goal

pub returns : goal.returns
returns c = question_answered
