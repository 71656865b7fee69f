use Rattle.std.proofs.Common.{◌-◌, ap, ◌∙◌}
use Rattle.asked_answers.specs.Holding.{some_true}
use Rattle.asked_answers.proofs.Held.{held}
use Rattle.asked_answers.proofs.Listed.{listed}
use Rattle.asked_answers.proofs.holding.holds.Goals as goal

pub returns : goal.returns
returns c =
    let parts = c.some_true.ensures ∙ ap (λ parts. some_true parts c.args.asked.from (c.args.asked.to - c.args.asked.from)) c.as_slice.ensures in
    record {
      holds = λ seen reading f told.
          held c.args.answer.now c.args.asked c.some_true.result c.is_turned.result c.requires.range parts c.is_turned.ensures
          seen told.disjuncts told.own reading told.trace told.answered told.answers told.in_range f told.spelled told.for;
      listed = listed c.args.answer.now c.args.asked c.some_true.result c.is_turned.result c.requires.range parts c.is_turned.ensures;
    }
