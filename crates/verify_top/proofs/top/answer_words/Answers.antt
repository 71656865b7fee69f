use Rattle.std.proofs.Common.{refl}
use Rattle.verify_top.proofs.ToldAnswers.{misasked}
use Rattle.verify_top.proofs.top.answer_words.Goals as goal

pub returns-in-Err-clause-answers : goal.returns-in-Err-clause-answers
returns-in-Err-clause-answers g c = misasked _ _ _ c.in-Err.fault c.in-Err.ensures

pub returns-in-Ok-clause-calm : goal.returns-in-Ok-clause-calm
returns-in-Ok-clause-calm g c = c.judge_input.ensures.calm

pub returns-in-Err-clause-calm : goal.returns-in-Err-clause-calm
returns-in-Err-clause-calm g c other = refl
