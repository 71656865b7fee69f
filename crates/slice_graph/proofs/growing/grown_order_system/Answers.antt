use Rattle.std.proofs.Common.{◌≡◌, ◌∙◌, ℕ, List, All, length, get_or, arith, ap, sym, subst, IfOk}
use Rattle.run_model.specs.Cut.{lengths}
use Rattle.run_model.proofs.Counts.{length-lengths}
use Rattle.pull_system.specs.declared.pull.Pull.{Pull}
use Rattle.pull_system.specs.System.{SystemView, IsPull}
use Rattle.pull_fans.specs.Growing.{grown_pulls}
use Rattle.slice_graph.specs.PullLists.{pulls_of_order}
use Rattle.slice_graph.proofs.OrderGrowing.{lengths_grow}
use Rattle.slice_graph.proofs.OrderPulls.{order_pulls_fit}
use Rattle.slice_graph.proofs.GrownOrder.{earlier_grown, earlier_count}
use Rattle.slice_graph.proofs.growing.grown_order_system.Goals as goal

pub all_behind-requires-clause-count : goal.all_behind-requires-clause-count
all_behind-requires-clause-count c = ap length (c.lens.ensures.lens ∙ c.shape.ensures.shape) ∙ earlier_count c.args.order.now c.args.system c.requires

pub all_behind-requires-clause-few : goal.all_behind-requires-clause-few
all_behind-requires-clause-few c = λ i.
    omega (arith, lengths_grow c.requires.before c.args.order.now c.requires.grown i, ap (λ (xs : List ℕ). get_or xs i 0) (c.lens.ensures.lens ∙ c.shape.ensures.shape ∙ ap (λ (s : SystemView). s.lens) c.requires.is))

pub grown-requires-clause-procs : goal.grown-requires-clause-procs
grown-requires-clause-procs c = ap length c.shape-2.ensures.lens ∙ length-lengths c.args.order.now ∙ sym (earlier_count c.args.order.now c.args.system c.requires)

pub grown-requires-clause-rows : goal.grown-requires-clause-rows
grown-requires-clause-rows c = ap length c.as_slice.ensures ∙ c.in_ok-more.ensures.size ∙ sym (earlier_count c.args.order.now c.args.system c.requires)

pub grown-requires-clause-pulls : goal.grown-requires-clause-pulls
grown-requires-clause-pulls c =
    let is : grown_pulls c.args.system.lens c.as_slice.result.now c.args.system.pulls ≡ pulls_of_order c.args.order.now =
    earlier_grown c.args.order.now c.args.system c.requires c.lens.result.now c.in_ok-more.more c.as_slice.result.now (c.lens.ensures.lens ∙ c.shape.ensures.shape) c.as_slice.ensures c.in_ok-more.ensures in
    subst (All (IsPull c.shape-2.result.now)) (sym is)
    (subst (λ (lens : List ℕ). All (IsPull lens) (pulls_of_order c.args.order.now)) (sym c.shape-2.ensures.lens) (order_pulls_fit c.args.order.now c.shape-2.ensures.order))

pub returns : goal.returns
returns c =
    let is : grown_pulls c.args.system.lens c.as_slice.result.now c.args.system.pulls ≡ pulls_of_order c.args.order.now =
    earlier_grown c.args.order.now c.args.system c.requires c.lens.result.now c.in_ok-more.more c.as_slice.result.now (c.lens.ensures.lens ∙ c.shape.ensures.shape) c.as_slice.ensures c.in_ok-more.ensures in
    subst (λ (v : SystemView). IfOk c.grown.result (λ (s : SystemView). s ≡ v))
    (ap (λ (lens : List ℕ). record { lens = lens; pulls = grown_pulls c.args.system.lens c.as_slice.result.now c.args.system.pulls }) c.shape-2.ensures.lens
    ∙ ap (λ (ps : List Pull). record { lens = lengths c.args.order.now; pulls = ps }) is)
    c.grown.ensures
