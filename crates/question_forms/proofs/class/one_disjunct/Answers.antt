use Rattle.std.proofs.Common.{◌≡◌, ◌∙◌, ap, sym, subst, Some}
use Rattle.std.proofs.lemmas.List.{length-map}
use Rattle.rctl_class.specs.NamedParts.{disjuncts_of, pieces_of}
use Rattle.rctl_class.specs.Nodes.{node_of}
use Rattle.rctl_class.specs.Uses.{fault_at}
use Rattle.rctl_grammar.specs.declared.fault.FormulaCode.TheVariants as code
use Rattle.rctl_grammar.specs.declared.fault.FormulaFault.{FormulaFault}
use Rattle.pota_base.specs.declared.fault.Refused.{Refused}
use Rattle.rctl_parse.specs.Reading.{Faults}
use Rattle.question_forms.specs.Taking.{regular_fault}
use Rattle.question_forms.proofs.Regular.{one_part, several_parts}
use Rattle.question_forms.proofs.class.one_disjunct.Goals as goal

pub returns-then-len-eq1 : goal.returns-then-len-eq1
returns-then-len-eq1 c =
    let many = length-map c.in_ok-classed.classed.disjuncts pieces_of in
    (one_part (node_of c.args.formula.now.tree) (disjuncts_of c.in_ok-classed.classed.disjuncts) c.requires c.in_ok-classed.ensures (many ∙ sym c.len.ensures ∙ c.if-len-eq1.true), c.in_ok-classed.ensures)

pub returns : goal.returns
returns c =
    let n = node_of c.args.formula.now.tree in
    let many = length-map c.in_ok-classed.classed.disjuncts pieces_of in
    let fault = several_parts n (disjuncts_of c.in_ok-classed.classed.disjuncts) c.requires c.in_ok-classed.ensures (λ one. c.if-len-eq1.false (c.len.ensures ∙ sym many ∙ one)) in
    subst (λ (stop : Refused FormulaFault). Faults stop (λ f. regular_fault n ≡ Some f)) (sym c.fault.ensures) (fault ∙ ap (fault_at code.DisjunctionInside) (sym c.split_place.ensures))
