use Rattle.std.proofs.Common.{◌∙◌, ap, arith, subst}
use Rattle.std.proofs.lemmas.List.{length-map}
use Rattle.asked_list.proofs.Added.{some}
use Rattle.asked_list.specs.Lists.{asked_each, disjuncts_in}
use Rattle.rctl_class.specs.NamedParts.{pieces_of}
use Rattle.rctl_names.specs.Resolving.{IsResolved}
use Rattle.rctl_parts.specs.Pieces.{disjuncts_of}
use Rattle.instance_outcomes.proofs.Instances.{asked_of, ok_more}
use Rattle.instance_outcomes.proofs.answering.asked_of.Goals as goal

pub resolve-requires-clause-disjuncts : goal.resolve-requires-clause-disjuncts
resolve-requires-clause-disjuncts c =
    some c.args.list.now c.requires.list (omega (arith, c.requires.some, length-map c.args.list.now.classed.disjuncts pieces_of))

pub returns : goal.returns
returns c =
    let there = subst (λ ws. IsResolved c.args.header.now ws (disjuncts_in c.args.list.now) c.in-Ok.resolved) c.new-none.ensures c.in-Ok.ensures in
    ok_more c.ask_each.result _ _
    (λ made so. asked_of c.args.header.now c.args.list.now c.in-Ok.resolved made c.requires.list there (so ∙ ap (λ fs. asked_each fs (disjuncts_of c.in-Ok.resolved.disjuncts)) c.as_slice.ensures))
    c.ask_each.ensures
