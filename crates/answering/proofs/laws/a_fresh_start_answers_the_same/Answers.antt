use Rattle.answering.proofs.OneTrace.{same_answer}
use Rattle.answering.proofs.laws.a_fresh_start_answers_the_same.Goals as goal

pub returns : goal.returns
returns g c = λ here there. same_answer c.one_answer.ensures _ c.args.watches.now.items here there
