use Rattle.std.specs.Prelude.{map, string_bytes}
use Rattle.ask_top.proofs.Passed.{told_answered, told_calm}
use Rattle.ask_top.proofs.top.ask.Goals as goal

pub returns-clause-answered : goal.returns-clause-answered
returns-clause-answered g c =
    told_answered _ _ _ _ _ _ _ _ _ (map string_bytes c.args.words.now) c.answer-answer.result c.tell_answer.result c.tell_answer.ensures.same c.answer-answer.ensures.answered

pub returns-clause-calm : goal.returns-clause-calm
returns-clause-calm g c =
    told_calm _ _ c.answer-answer.result c.tell_answer.result c.tell_answer.ensures.same c.answer-answer.ensures.calm
