use Rattle.verify_answers.proofs.ToldAnswers.{told_whole, told_part, has_line}
use Rattle.verify_answers.proofs.telling.tell_answer.Goals as goal

pub returns-in-Ok-clause-told : goal.returns-in-Ok-clause-told
returns-in-Ok-clause-told g c =
    told_whole (g.O.Sink.held c.args.out.now) (g.O.Sink.held c.write_answer.new.out) (g.O.Sink.faults c.args.out.now) (g.O.Sink.faults c.write_answer.new.out) c.args.answer.now c.verified.result c.verified.ensures
    c.in-Ok.ensures.whole

pub returns-in-Ok-clause-later : goal.returns-in-Ok-clause-later
returns-in-Ok-clause-later g c = c.in-Ok.ensures.cause.later

pub returns-in-Err-clause-told : goal.returns-in-Err-clause-told
returns-in-Err-clause-told g c =
    told_part (g.O.Sink.held c.args.out.now) (g.O.Sink.held c.write_answer.new.out) (g.O.Sink.faults c.args.out.now) (g.O.Sink.faults c.write_answer.new.out) c.args.answer.now c.verified-in-Err.result
    (has_line c.args.answer.now c.write_answer.result c.in-Err.field-0 c.in-Err.is c.write_answer.ensures.faulty) c.verified-in-Err.ensures c.in-Err.ensures.cause.failed c.in-Err.ensures.part

pub returns-in-Err-clause-later : goal.returns-in-Err-clause-later
returns-in-Err-clause-later g c = c.in-Err.ensures.cause.later
