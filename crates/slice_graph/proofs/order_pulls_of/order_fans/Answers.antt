use Rattle.std.proofs.Common.{ℕ, ◌≡◌, ◌↔◌, List, ◌++◌, All, length, flat_map, arith, ap, sym, subst, ◌∙◌}
use Rattle.std.specs.List.{range_with_len}
use Rattle.run_model.specs.Cut.{lengths}
use Rattle.run_model.specs.Consistent.{IsConsistent}
use Rattle.run_model.proofs.Counts.{length-lengths}
use Rattle.pull_system.specs.declared.pull.Pull.{Pull}
use Rattle.pull_system.specs.System.{IsPull}
use Rattle.pull_system.specs.Pulls.{ClosedUnder}
use Rattle.slice_graph.specs.PullLists.{order_pull, pulls_of_order}
use Rattle.pull_fans.specs.Fans.{pulls_of_fans}
use Rattle.slice_graph.proofs.Pairs.{flat_first}
use Rattle.slice_graph.proofs.Fans.{fans_more}
use Rattle.slice_graph.proofs.OrderPulls.{order_pulls_fit, order_pulls_count, order_closed}
use Rattle.slice_graph.proofs.order_pulls_of.order_fans.Goals as goal

pub order_fan-requires : goal.order_fan-requires
order_fan-requires c = omega (arith, c.loop-source-test.true, c.procs-source-end.ensures.count, ap length c.shape.ensures.lens, length-lengths c.args.order.now)

pub loop-source-preserved : goal.loop-source-preserved
loop-source-preserved c = flat_first (pulls_of_fans c.loop-source.fans) (pulls_of_fans c.push.new.self) (λ i. flat_map (order_pull c.args.order.now i) (range_with_len 0 (length c.args.order.now))) c.loop-source.source
    c.loop-source.invariant (fans_more c.loop-source.fans c.push.new.self c.in_ok-order_fan.field-0 c.in_ok-push.ensures.ok ∙ ap (λ (ps : List Pull). pulls_of_fans c.loop-source.fans ++ ps) c.in_ok-order_fan.ensures)

pub returns-clause-list : goal.returns-clause-list
returns-clause-list c =
    let list : pulls_of_fans c.loop-source.fans ≡ pulls_of_order c.args.order.now =
    c.loop-source.invariant ∙ ap (λ (n : ℕ). flat_map (λ i. flat_map (order_pull c.args.order.now i) (range_with_len 0 (length c.args.order.now))) (range_with_len 0 n))
    (omega (arith, c.procs-source-end.ensures.count, ap length c.shape.ensures.lens, length-lengths c.args.order.now)) in
    list

pub returns-clause-count : goal.returns-clause-count
returns-clause-count c =
    let list : pulls_of_fans c.loop-source.fans ≡ pulls_of_order c.args.order.now =
    c.loop-source.invariant ∙ ap (λ (n : ℕ). flat_map (λ i. flat_map (order_pull c.args.order.now i) (range_with_len 0 (length c.args.order.now))) (range_with_len 0 n))
    (omega (arith, c.procs-source-end.ensures.count, ap length c.shape.ensures.lens, length-lengths c.args.order.now)) in
    ap length list ∙ order_pulls_count c.args.order.now

pub returns-clause-pulls : goal.returns-clause-pulls
returns-clause-pulls c =
    let list : pulls_of_fans c.loop-source.fans ≡ pulls_of_order c.args.order.now =
    c.loop-source.invariant ∙ ap (λ (n : ℕ). flat_map (λ i. flat_map (order_pull c.args.order.now i) (range_with_len 0 (length c.args.order.now))) (range_with_len 0 n))
    (omega (arith, c.procs-source-end.ensures.count, ap length c.shape.ensures.lens, length-lengths c.args.order.now)) in
    subst (All (IsPull (lengths c.args.order.now))) (sym list) (order_pulls_fit c.args.order.now c.shape.ensures.order)

pub returns-clause-closed : goal.returns-clause-closed
returns-clause-closed c =
    let list : pulls_of_fans c.loop-source.fans ≡ pulls_of_order c.args.order.now =
    c.loop-source.invariant ∙ ap (λ (n : ℕ). flat_map (λ i. flat_map (order_pull c.args.order.now i) (range_with_len 0 (length c.args.order.now))) (range_with_len 0 n))
    (omega (arith, c.procs-source-end.ensures.count, ap length c.shape.ensures.lens, length-lengths c.args.order.now)) in
    λ cut size within. subst (λ (pulls : List Pull). ClosedUnder pulls cut ↔ IsConsistent c.args.order.now cut) (sym list) (order_closed c.args.order.now c.shape.ensures.order cut size within)
