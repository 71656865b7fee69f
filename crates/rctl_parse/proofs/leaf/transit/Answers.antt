use Rattle.rctl_parse.proofs.LeafSteps.{passes_on}
use Rattle.rctl_parse.proofs.LeafReads.{transit_read, transit_without_sign, transit_without_count}
use Rattle.rctl_parse.proofs.leaf.transit.Goals as goal

pub returns-in_err-compare : goal.returns-in_err-compare
returns-in_err-compare c = passes_on _ _ _ c.in_err-compare.field-0.0 _ _ c.from_residual-in_err-compare.ensures.1 (λ y same. same) c.in_err-compare.ensures
    (λ f miss. transit_without_sign _ _ _ _ _ f c.in_ok-sender.ensures miss)

pub returns-in_err-k : goal.returns-in_err-k
returns-in_err-k c = passes_on _ _ _ c.in_err-k.field-0.0 _ _ c.from_residual-in_err-k.ensures.1 (λ y same. same) c.in_err-k.ensures
    (λ f bad. transit_without_count _ _ _ _ _ _ _ f c.in_ok-sender.ensures c.in_ok-compare.ensures bad)

pub returns : goal.returns
returns c = transit_read _ _ _ _ _ _ _ _ _ c.in_ok-sender.ensures c.in_ok-compare.ensures c.in_ok-k.ensures
