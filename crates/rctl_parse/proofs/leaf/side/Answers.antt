use Rattle.rctl_parse.proofs.LeafSteps.{passes_on}
use Rattle.rctl_parse.proofs.LeafReads.{number_side, side_without_name, variable_side}
use Rattle.rctl_parse.proofs.leaf.side.Goals as goal

pub returns-in-Some : goal.returns-in-Some
returns-in-Some c = number_side _ _ _ _ _ _ c.in-Some.ensures c.in_ok-number_side.ensures

pub returns-in_err-variable : goal.returns-in_err-variable
returns-in_err-variable c = passes_on _ _ _ c.in_err-variable.field-0.0 _ _ c.from_residual-in_err-variable.ensures.1 (λ y same. same) c.in_err-variable.ensures
    (λ f miss. side_without_name _ _ _ _ _ _ f c.in_ok-process.ensures c.in_ok-rest.ensures miss)

pub returns : goal.returns
returns c = variable_side _ _ _ _ _ _ _ _ c.in_ok-process.ensures c.in_ok-rest.ensures c.in_ok-variable.ensures
