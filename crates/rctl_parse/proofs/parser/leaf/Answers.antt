use Rattle.std.proofs.Common.{◌≡◌, refl}
use Rattle.rctl_grammar.specs.FirstFault.{too_many_at}
use Rattle.rctl_parse.proofs.LeafSteps.{passes_on, stops_with}
use Rattle.rctl_parse.proofs.UnarySteps.{leaf_read, leaf_too_many}
use Rattle.rctl_parse.proofs.parser.leaf.Goals as goal

pub returns-in_err-behind : goal.returns-in_err-behind
returns-in_err-behind c = λ w is. passes_on (λ f. f ≡ too_many_at c.args.at) _ _ c.in_err-behind.field-0.0 _ _ c.from_residual.ensures.1 (λ y same. same)
    (stops_with (λ f. f ≡ too_many_at c.args.at) c.in_err-behind.field-0.0 _ c.in_err-behind.ensures.1 refl) (λ f same. leaf_too_many _ _ w _ _ _ f is c.in_err-behind.ensures.0 same)

pub returns : goal.returns
returns c = λ w is. leaf_read _ _ _ _ _ _ c.in_ok-behind.ensures (c.in_ok-atom.ensures w is)
