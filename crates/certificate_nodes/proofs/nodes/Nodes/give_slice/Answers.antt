use Rattle.std.proofs.Common.{◌≡◌, List, Option, Some, None, length, flat_map, refl, sym, ap, ◌∙◌, subst, arith}
use Rattle.std.proofs.lemmas.List.{get_or_default}
use Rattle.run_model.specs.Cut.{Clocks}
use Rattle.pull_system.specs.System.{SystemView}
use Rattle.slice_graph.specs.Views.{SliceView}
use Rattle.slice_graph.specs.Fitting.{HasOrder}
use Rattle.slice_graph.proofs.OrderPulls.{has_order}
use Rattle.certificate_table.specs.Begun.{BegunView}
use Rattle.certificate_nodes.specs.declared.plan.Node.{Node}
use Rattle.certificate_nodes.specs.Plans.{no_node, node_at, pulls_asked}
use Rattle.certificate_nodes.specs.Given.{Gives, IsGiven}
use Rattle.certificate_nodes.specs.Nodes.{AreNodes, IsPresent, NodesView}
use Rattle.certificate_nodes.proofs.Keeping.{none_present}
use Rattle.certificate_nodes.proofs.nodes.Nodes.give_slice.Goals as goal

pub slice_given-requires-clause-order : goal.slice_given-requires-clause-order
slice_given-requires-clause-order c =
    let o = c.self.inside.run in
    let plan = c.self.inside.plan in
    let slices = c.self.inside.slices in
    let here : IsPresent o plan slices (Some c.in-Some.rows) = subst (λ (p : Option BegunView). IsPresent o plan slices p) c.in-Some.is c.self.invariant.present in
    subst (λ (k : Clocks). HasOrder k c.in-Some.rows.system) (sym c.order.ensures) (has_order o c.self.invariant.order c.in-Some.rows.system (flat_map (pulls_asked plan slices) (node_at plan (length slices)).parts) (ap (λ (s : SystemView). s.pulls) here.1))

pub invariant_of-self : goal.invariant_of-self
invariant_of-self c =
    let with_slices : List SliceView → NodesView = λ ss. record { order = c.self.inside.run; plan = c.self.inside.plan; slices = ss; present = c.self.inside.present } in
    subst (λ (ss : List SliceView). AreNodes (with_slices ss)) (sym c.in_err-push.ensures.err) c.self.invariant

pub invariant_of-self-2 : goal.invariant_of-self-2
invariant_of-self-2 c =
    let o = c.self.inside.run in
    let plan = c.self.inside.plan in
    let slices = c.self.inside.slices in
    let v : NodesView = record { order = o; plan = plan; slices = slices; present = c.self.inside.present } in
    let after : NodesView = record { order = o; plan = plan; slices = c.push.new.self; present = None } in
    let here : IsPresent o plan slices (Some c.in-Some.rows) = subst (λ (p : Option BegunView). IsPresent o plan slices p) c.in-Some.is c.self.invariant.present in
    let node : c.get.result.now ≡ node_at plan (length slices) =
    c.get.ensures.indexed ∙ get_or_default plan.nodes c.len.result c.get.result.now no_node (omega (arith, here.0, c.len.ensures)) ∙ ap (λ n. node_at plan n) c.len.ensures in
    let given : IsGiven o (node_at plan (length slices)).operator c.in-Some.rows.system c.in_ok-slice-in-Some.slice =
    subst (λ (n : Node). IsGiven o n.operator c.in-Some.rows.system c.in_ok-slice-in-Some.slice) node
    (subst (λ (k : Clocks). IsGiven k c.get.result.now.operator c.in-Some.rows.system c.in_ok-slice-in-Some.slice) c.order.ensures c.in_ok-slice-in-Some.ensures) in
    let gives : Gives o plan slices (Some c.in-Some.rows) c.push.new.self = (c.in_ok-slice-in-Some.slice, given, c.in_ok-push.ensures.ok) in
    none_present v after c.self.invariant refl refl (subst (λ (p : Option BegunView). Gives o plan slices p c.push.new.self) (sym c.in-Some.is) gives) refl
