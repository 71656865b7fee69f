use Rattle.verify_answers.proofs.Writing.{first_part}
use Rattle.verify_answers.proofs.telling.write_both.Goals as goal

pub returns-in-Err-clause-part : goal.returns-in-Err-clause-part
returns-in-Err-clause-part g c =
    first_part (g.O.Sink.held c.args.out.now) (g.O.Sink.held c.write_all.new.out) c.args.first.now c.args.second.now c.in-Err.ensures.part
