use Rattle.std.proofs.Common.{ℕ, ◌≡◌, ◌↔◌, List, ◌++◌, All, length, flat_map, arith, ap, sym, subst, ◌∙◌}
use Rattle.std.specs.List.{range_with_len}
use Rattle.run_model.specs.Slice.{Cuts}
use Rattle.pull_system.specs.declared.pull.Pull.{Pull}
use Rattle.pull_system.specs.System.{IsPull}
use Rattle.pull_system.specs.Pulls.{ClosedUnder}
use Rattle.slice_graph.specs.Views.{slice_of}
use Rattle.slice_graph.specs.PullLists.{slice_pull, pulls_of_slice}
use Rattle.pull_fans.specs.Fans.{pulls_of_fans}
use Rattle.slice_graph.proofs.Pairs.{flat_first}
use Rattle.slice_graph.proofs.Fans.{fans_more}
use Rattle.slice_graph.proofs.SlicePulls.{slice_pulls_fit, slice_pulls_count, slice_closed}
use Rattle.slice_graph.proofs.slice.Slice.fans.Goals as goal

pub loop-source-preserved : goal.loop-source-preserved
loop-source-preserved c = flat_first (pulls_of_fans c.loop-source.fans) (pulls_of_fans c.push.new.self) (λ i. flat_map (slice_pull c.args.self.now i) (range_with_len 0 (length c.args.self.now.lens))) c.loop-source.source
    c.loop-source.invariant (fans_more c.loop-source.fans c.push.new.self c.in_ok-slice_fan.field-0 c.in_ok-push.ensures.ok ∙ ap (λ (ps : List Pull). pulls_of_fans c.loop-source.fans ++ ps) c.in_ok-slice_fan.ensures)

pub returns-clause-list : goal.returns-clause-list
returns-clause-list c =
    let list : pulls_of_fans c.loop-source.fans ≡ pulls_of_slice c.args.self.now =
    c.loop-source.invariant ∙ ap (λ (n : ℕ). flat_map (λ i. flat_map (slice_pull c.args.self.now i) (range_with_len 0 (length c.args.self.now.lens))) (range_with_len 0 n))
    (omega (arith, c.procs-source-end.ensures.count, ap length c.shape.ensures.lens)) in
    list

pub returns-clause-count : goal.returns-clause-count
returns-clause-count c =
    let list : pulls_of_fans c.loop-source.fans ≡ pulls_of_slice c.args.self.now =
    c.loop-source.invariant ∙ ap (λ (n : ℕ). flat_map (λ i. flat_map (slice_pull c.args.self.now i) (range_with_len 0 (length c.args.self.now.lens))) (range_with_len 0 n))
    (omega (arith, c.procs-source-end.ensures.count, ap length c.shape.ensures.lens)) in
    ap length list ∙ slice_pulls_count c.args.self.now

pub returns-clause-pulls : goal.returns-clause-pulls
returns-clause-pulls c =
    let list : pulls_of_fans c.loop-source.fans ≡ pulls_of_slice c.args.self.now =
    c.loop-source.invariant ∙ ap (λ (n : ℕ). flat_map (λ i. flat_map (slice_pull c.args.self.now i) (range_with_len 0 (length c.args.self.now.lens))) (range_with_len 0 n))
    (omega (arith, c.procs-source-end.ensures.count, ap length c.shape.ensures.lens)) in
    λ o fits. subst (All (IsPull c.args.self.now.lens)) (sym list) (slice_pulls_fit o c.args.self.now fits c.shape.ensures.rows)

pub returns-clause-closed : goal.returns-clause-closed
returns-clause-closed c =
    let list : pulls_of_fans c.loop-source.fans ≡ pulls_of_slice c.args.self.now =
    c.loop-source.invariant ∙ ap (λ (n : ℕ). flat_map (λ i. flat_map (slice_pull c.args.self.now i) (range_with_len 0 (length c.args.self.now.lens))) (range_with_len 0 n))
    (omega (arith, c.procs-source-end.ensures.count, ap length c.shape.ensures.lens)) in
    λ o fits cut here. subst (λ (pulls : List Pull). ClosedUnder pulls cut ↔ Cuts o (slice_of c.args.self.now) cut) (sym list) (slice_closed o c.args.self.now fits c.shape.ensures.rows cut here)
