use Rattle.std.proofs.Common.{ℤ, sym, subst, rules}
use Rattle.std.specs.Prelude.{FitsSigned}
use Rattle.std.specs.Int.{w64}
use Rattle.std.proofs.lemmas.Int.{to_z-of_z}
use Rattle.rctl_grammar.specs.declared.tree.Atom.TheVariants.{Difference}
use Rattle.rctl_grammar.specs.Machine.{subtracting}
use Rattle.rctl_parse.specs.inside.Reading.{LeafRead}
use Rattle.rctl_parse.proofs.LeafSteps.{passes_on}
use Rattle.rctl_parse.proofs.DifferenceReads.{subtracted, without_right_dot, without_right_name, without_sign, without_bound, difference_read}
use Rattle.rctl_parse.proofs.leaf.difference.Goals as goal

pub returns-in_err-rest : goal.returns-in_err-rest
returns-in_err-rest c = passes_on _ _ _ c.in_err-rest.field-0.0 _ _ c.from_residual-in_err-rest.ensures.1 (λ y same. same) c.in_err-rest.ensures
    (λ f miss. without_right_dot _ _ _ _ f c.in_ok-right_process.ensures miss)

pub returns-in_err-right : goal.returns-in_err-right
returns-in_err-right c = passes_on _ _ _ c.in_err-right.field-0.0 _ _ c.from_residual-in_err-right.ensures.1 (λ y same. same) c.in_err-right.ensures
    (λ f miss. without_right_name _ _ _ _ _ _ f c.in_ok-right_process.ensures c.in_ok-rest.ensures miss)

pub returns-in_err-compare : goal.returns-in_err-compare
returns-in_err-compare c = passes_on _ _ _ c.in_err-compare.field-0.0 _ _ c.from_residual-in_err-compare.ensures.1 (λ y same. same) c.in_err-compare.ensures
    (λ f miss. without_sign _ _ _ _ _ f (subtracted _ _ _ _ _ _ _ _ c.in_ok-right_process.ensures c.in_ok-rest.ensures c.in_ok-right.ensures) miss)

pub returns-in_err-k : goal.returns-in_err-k
returns-in_err-k c = passes_on _ _ _ c.in_err-k.field-0.0 _ _ c.from_residual-in_err-k.ensures.1 (λ y same. same) c.in_err-k.ensures
    (λ f bad. without_bound _ _ _ _ _ _ _ f (subtracted _ _ _ _ _ _ _ _ c.in_ok-right_process.ensures c.in_ok-rest.ensures c.in_ok-right.ensures) c.in_ok-compare.ensures bad)

pub returns : goal.returns
returns c = λ v minus is_process is_name.
    let fits : FitsSigned w64 c.in_ok-k.k = search rules in
    let read = difference_read _ _ _ _ _ _ _ _ _ _ _
    (subtracted _ _ _ _ _ _ _ _ c.in_ok-right_process.ensures c.in_ok-rest.ensures c.in_ok-right.ensures) c.in_ok-compare.ensures c.in_ok-k.ensures v minus is_process is_name in
    subst (λ (k : ℤ). LeafRead (subtracting v minus) c.args.tokens.now c.in_ok-k.rest.now c.args.end
    (Difference c.args.left_process c.args.left c.in_ok-right_process.right_process c.in_ok-right.right c.in_ok-compare.compare k) v.process.at)
    (sym (to_z-of_z w64 c.in_ok-k.k fits)) read
