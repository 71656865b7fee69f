use Rattle.std.proofs.Common.{sym, subst}
use Rattle.std.specs.Prelude.{◌↔◌, IsTrue, IfOk}
use Rattle.run_model.specs.Cut.{initial}
use Rattle.run_model.specs.Slice.{Cuts}
use Rattle.rctl_grammar.specs.declared.tree.Operator.{Operator}
use Rattle.slice_graph.specs.Views.{slice_of}
use Rattle.part_pulls.specs.Operating.{Operated}
use Rattle.conjunctions.proofs.operator.add_operator.Goals as goal

pub returns-in-Ex-clause-truth : goal.returns-in-Ex-clause-truth
returns-in-Ex-clause-truth c =
    let o = c.args.order.now in
    subst (λ (k : Operator). IfOk c.add_next.result (λ truth. IsTrue truth ↔ Operated k o (Cuts o (slice_of c.args.operand.now)) (initial o))) (sym c.in-Ex.is) c.add_next.ensures.truth
