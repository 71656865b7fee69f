use Rattle.std.proofs.Common.{◌≡◌, true, rules, sym, subst}
use Rattle.std.specs.Prelude.{◌↔◌}
use Rattle.std.proofs.lemmas.Result.{IfOk-weaker}
use Rattle.run_model.specs.Slice.{Cuts}
use Rattle.slice_graph.specs.Views.{slice_of}
use Rattle.rctl_grammar.specs.declared.tree.Operator.{Operator}
use Rattle.part_pulls.specs.Operating.{operator_gives_order}
use Rattle.certificate_nodes.specs.Given.{SlicedBy}
use Rattle.certificate_nodes.proofs.Sliced.{sliced_is}
use Rattle.certificate_nodes.proofs.giving.sliced_by.Goals as goal

pub returns-in-Ex-clause-cuts : goal.returns-in-Ex-clause-cuts
returns-in-Ex-clause-cuts c = λ cut consistent.
    let o = c.args.order.now in
    let operand = slice_of c.args.operand in
    subst (λ (kind : Operator). Cuts o operand cut ↔ SlicedBy kind o (Cuts o operand) cut) (sym c.in-Ex.is) (λ h. h, λ h. h)

pub returns-in-Ef-clause-cuts : goal.returns-in-Ef-clause-cuts
returns-in-Ef-clause-cuts c =
    let o = c.args.order.now in
    let gives : operator_gives_order c.args.operator ≡ true = search rules in
    IfOk-weaker c.operate.result _ _
    (λ slice cuts cut consistent.
    let is = sliced_is o c.args.operator (Cuts o (slice_of c.args.operand)) cut gives in
    let same = cuts cut consistent in
    (λ h. is.0 (same.0 h), λ h. same.1 (is.1 h)))
    c.operate.ensures.cuts
