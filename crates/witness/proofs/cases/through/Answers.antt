use Rattle.std.proofs.Common.{◌≡◌, arith}
use Rattle.run_model.specs.Cut.{lengths}
use Rattle.run_model.specs.Witness as model
use Rattle.witness.proofs.CaseSteps.{initial_few}
use Rattle.witness.proofs.cases.through.Goals as goal

pub walk-requires-clause-few : goal.walk-requires-clause-few
walk-requires-clause-few c = initial_few c.args.order.now c.args.start c.requires.operand.run c.requires.start

pub returns : goal.returns
returns c =
    let goal_is : c.set_words.new.into ≡ lengths c.args.order.now = grind arith in
    model.IsCanonical.stays goal_is (rw c.requires.start at c.in_ok-steps.ensures)
