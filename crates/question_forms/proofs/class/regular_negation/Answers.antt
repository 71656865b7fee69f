use Rattle.std.proofs.Common.{◌∙◌, sym, subst}
use Rattle.rctl_class.specs.Nodes.{IsWithinLimits, node_of}
use Rattle.question_forms.proofs.Regular.{negated_limits, small_if}
use Rattle.question_forms.proofs.class.regular_negation.Goals as goal

pub one_disjunct-classed-requires : goal.one_disjunct-classed-requires
one_disjunct-classed-requires c =
    let n = node_of c.args.formula.tree in
    subst IsWithinLimits (sym c.in_ok-negated.ensures) (negated_limits n c.requires (small_if n (sym c.may_be_negated.ensures ∙ (c.if-not-may_be_negated).false)))
