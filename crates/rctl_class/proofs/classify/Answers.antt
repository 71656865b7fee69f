use Rattle.std.proofs.Common.{◌++◌, true, ◌∙◌, ap}
use Rattle.rctl_class.specs.NamedParts.{disjuncts_of}
use Rattle.rctl_class.specs.Nodes.{node_of}
use Rattle.rctl_class.specs.Walk.{disjuncts_from}
use Rattle.rctl_class.proofs.Sizes.{classed}
use Rattle.rctl_class.proofs.classify.Goals as goal

pub returns : goal.returns
returns c =
    let n = node_of c.args.formula.now.tree in
    classed n (disjuncts_of c.disjunction.new.disjuncts) c.requires c.in_ok-disjunction.ensures.0
    (c.in_ok-disjunction.ensures.1 ∙ ap (λ ds. disjuncts_of ds ++ disjuncts_from true n) c.new-disjuncts.ensures)
