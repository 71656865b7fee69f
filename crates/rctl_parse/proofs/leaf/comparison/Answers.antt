use Rattle.rctl_parse.proofs.LeafSteps.{passes_on}
use Rattle.rctl_parse.proofs.LeafReads.{comparison_read, comparison_without_sign, comparison_without_side}
use Rattle.rctl_parse.proofs.DifferenceReads.{difference_answer}
use Rattle.rctl_parse.proofs.leaf.comparison.Goals as goal

pub returns-in_err-compare : goal.returns-in_err-compare
returns-in_err-compare c = passes_on _ _ _ c.in_err-compare.field-0.0 _ _ c.from_residual-in_err-compare.ensures.1 (λ y same. same) c.in_err-compare.ensures
    (λ f miss. comparison_without_sign _ _ _ _ f c.in_ok-variable.ensures c.in_default.ensures miss)

pub returns-in_err-side : goal.returns-in_err-side
returns-in_err-side c = passes_on _ _ _ c.in_err-side.field-0.0 _ _ c.from_residual-in_err-side.ensures.1 (λ y same. same) c.in_err-side.ensures
    (λ f bad. comparison_without_side _ _ _ _ _ _ f c.in_ok-variable.ensures c.in_ok-compare.ensures bad)

pub returns-in-Some : goal.returns-in-Some
returns-in-Some c = difference_answer _ _ _ _ _ _ _ _ c.in_ok-variable.ensures c.in-Some.ensures c.difference.ensures

pub returns : goal.returns
returns c = λ p dot is. comparison_read p dot _ _ _ _ _ _ _ _ _ c.in_ok-variable.ensures c.in_ok-compare.ensures c.in_ok-side.ensures is
