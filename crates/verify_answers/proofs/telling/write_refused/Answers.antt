use Rattle.std.proofs.Common.{[], ◌∷◌, ◌++◌}
use Rattle.std.specs.Prelude.{codes}
use Rattle.std.specs.Fmt.{decimal}
use Rattle.verify_answers.proofs.Writing.{first_part, both_whole, both_part}
use Rattle.verify_answers.proofs.telling.write_refused.Goals as goal

pub returns-in-Err-clause-part : goal.returns-in-Err-clause-part
returns-in-Err-clause-part g c =
    first_part (g.O.Sink.held c.args.out.now) (g.O.Sink.held c.write_all.new.out) (codes "refused line ") (decimal c.args.number ++ 10 ∷ []) c.in-Err.ensures.part

pub returns-clause-whole : goal.returns-clause-whole
returns-clause-whole g c =
    both_whole c.write_number.result (g.O.Sink.held c.args.out.now) (g.O.Sink.held c.write_all.new.out) (g.O.Sink.held c.write_number.new.out) (codes "refused line ") (decimal c.args.number ++ 10 ∷ [])
    c.in_default.ensures.whole c.write_number.ensures.whole

pub returns-clause-part : goal.returns-clause-part
returns-clause-part g c =
    both_part c.write_number.result (g.O.Sink.held c.args.out.now) (g.O.Sink.held c.write_all.new.out) (g.O.Sink.held c.write_number.new.out) (codes "refused line ") (decimal c.args.number ++ 10 ∷ [])
    c.in_default.ensures.whole c.write_number.ensures.part
