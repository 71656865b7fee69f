use Rattle.std.proofs.Common.{ℕ, ◌≡◌, ◌↔◌, List, ◌++◌, All, length, flat_map, arith, ap, sym, subst, ◌∙◌}
use Rattle.std.specs.List.{range_with_len}
use Rattle.run_model.specs.Slice.{Cuts}
use Rattle.run_model.specs.Operators.{ExHolds}
use Rattle.run_model.proofs.SliceLemmas.{cuts_closed}
use Rattle.meaning_laws.proofs.ClosureLemmas.{next_time_closed}
use Rattle.pull_system.specs.declared.pull.Pull.{Pull}
use Rattle.pull_system.specs.System.{IsPull}
use Rattle.pull_system.specs.Pulls.{ClosedUnder}
use Rattle.pull_fans.specs.Fans.{pulls_of_fans}
use Rattle.slice_graph.specs.Views.{slice_of}
use Rattle.slice_graph.proofs.Pairs.{flat_first}
use Rattle.slice_graph.proofs.Fans.{fans_more}
use Rattle.temporal_slice.specs.NextPulls.{next_pull, pulls_of_next}
use Rattle.temporal_slice.proofs.NextPulls.{next_pulls_fit, next_pulls_count, next_closed}
use Rattle.temporal_slice.proofs.behind_next.ex_fans.Goals as goal

pub loop-source-preserved : goal.loop-source-preserved
loop-source-preserved c = flat_first (pulls_of_fans c.loop-source.fans) (pulls_of_fans c.push.new.self) (λ i. flat_map (next_pull c.args.child.now c.args.process i) (range_with_len 0 (length c.args.child.now.lens))) c.loop-source.source
    c.loop-source.invariant (fans_more c.loop-source.fans c.push.new.self c.in_ok-next_fan.field-0 c.in_ok-push.ensures.ok ∙ ap (λ (ps : List Pull). pulls_of_fans c.loop-source.fans ++ ps) c.in_ok-next_fan.ensures)

pub returns-in_err-next_fan-clause-family : goal.returns-in_err-next_fan-clause-family
returns-in_err-next_fan-clause-family c =
    next_time_closed c.args.order.now c.shape-order.ensures.order (Cuts c.args.order.now (slice_of c.args.child.now)) (cuts_closed c.args.order.now c.shape-order.ensures.order (slice_of c.args.child.now)) c.args.process

pub returns-in_err-push-clause-family : goal.returns-in_err-push-clause-family
returns-in_err-push-clause-family c =
    next_time_closed c.args.order.now c.shape-order.ensures.order (Cuts c.args.order.now (slice_of c.args.child.now)) (cuts_closed c.args.order.now c.shape-order.ensures.order (slice_of c.args.child.now)) c.args.process

pub returns-clause-family : goal.returns-clause-family
returns-clause-family c =
    next_time_closed c.args.order.now c.shape-order.ensures.order (Cuts c.args.order.now (slice_of c.args.child.now)) (cuts_closed c.args.order.now c.shape-order.ensures.order (slice_of c.args.child.now)) c.args.process

pub returns-clause-count : goal.returns-clause-count
returns-clause-count c =
    let list : pulls_of_fans c.loop-source.fans ≡ pulls_of_next c.args.child.now c.args.process =
    c.loop-source.invariant ∙ ap (λ (n : ℕ). flat_map (λ i. flat_map (next_pull c.args.child.now c.args.process i) (range_with_len 0 (length c.args.child.now.lens))) (range_with_len 0 n))
    (omega (arith, c.procs-source-end.ensures.count, ap length c.shape.ensures.lens)) in
    ap length list ∙ next_pulls_count c.args.child.now c.args.process

pub returns-clause-pulls : goal.returns-clause-pulls
returns-clause-pulls c =
    let list : pulls_of_fans c.loop-source.fans ≡ pulls_of_next c.args.child.now c.args.process =
    c.loop-source.invariant ∙ ap (λ (n : ℕ). flat_map (λ i. flat_map (next_pull c.args.child.now c.args.process i) (range_with_len 0 (length c.args.child.now.lens))) (range_with_len 0 n))
    (omega (arith, c.procs-source-end.ensures.count, ap length c.shape.ensures.lens)) in
    subst (All (IsPull c.args.child.now.lens)) (sym list) (next_pulls_fit c.args.order.now c.args.child.now c.requires.fits c.shape.ensures.rows c.args.process)

pub returns-clause-closed : goal.returns-clause-closed
returns-clause-closed c =
    let list : pulls_of_fans c.loop-source.fans ≡ pulls_of_next c.args.child.now c.args.process =
    c.loop-source.invariant ∙ ap (λ (n : ℕ). flat_map (λ i. flat_map (next_pull c.args.child.now c.args.process i) (range_with_len 0 (length c.args.child.now.lens))) (range_with_len 0 n))
    (omega (arith, c.procs-source-end.ensures.count, ap length c.shape.ensures.lens)) in
    λ cut here. subst (λ (pulls : List Pull). ClosedUnder pulls cut ↔ ExHolds c.args.order.now c.args.process (Cuts c.args.order.now (slice_of c.args.child.now)) cut) (sym list)
    (next_closed c.args.order.now c.args.child.now c.requires.fits c.shape.ensures.rows c.args.process c.requires.process cut here)
