use Rattle.std.proofs.Common.{◌≡◌, ◌∙◌, ◌+◌, ◌-◌, ◌≤◌, ℕ, List, [], length, get_or, map, replicate, min, arith, ap, sym, subst}
use Rattle.std.specs.List.{range_with_len}
use Rattle.std.proofs.lemmas.List.FromFn.{length-map-range_with_len}
use Rattle.run_model.specs.Cut.{lengths, count}
use Rattle.run_model.proofs.Counts.{length-lengths}
use Rattle.pota_base.specs.Limits.{most_processes}
use Rattle.pull_fans.specs.Fans.{FanView, AreTables}
use Rattle.slice_graph.specs.PullLists.{past_count, order_entry, order_table}
use Rattle.slice_graph.specs.inside.PullLists.{other}
use Rattle.slice_graph.proofs.RowByRow.{tables_none, tables_more, zeros_of, zero_counts}
use Rattle.slice_graph.proofs.Fans.{fan_pulls, flat_others, order_row_small}
use Rattle.slice_graph.proofs.order_pulls_of.order_fan.Goals as goal

pub len_of-len-requires : goal.len_of-len-requires
len_of-len-requires c = omega (arith, c.requires, length-lengths c.args.order.now, ap length c.shape-shape.ensures.lens)

pub other_processes-requires : goal.other_processes-requires
other_processes-requires c =
    let procs : c.procs-procs.result ≡ length c.args.order.now = omega (arith, c.procs-procs.ensures.count, ap length c.shape-shape.ensures.lens, length-lengths c.args.order.now) in
    omega (arith, c.requires, procs)

pub loop-position-init : goal.loop-position-init
loop-position-init c =
    let procs : c.procs-procs.result ≡ length c.args.order.now = omega (arith, c.procs-procs.ensures.count, ap length c.shape-shape.ensures.lens, length-lengths c.args.order.now) in
    let some : 1 ≤ c.procs-procs.result = omega (arith, c.requires, procs) in
    let targets : c.in_ok-targets.targets ≡ map (other c.args.source) (range_with_len 0 (length c.args.order.now - 1)) =
    c.in_ok-targets.ensures ∙ ap (λ (n : ℕ). map (other c.args.source) (range_with_len 0 (n - 1))) procs in
    let size : length c.in_ok-targets.targets ≡ length c.args.order.now - 1 = ap length targets ∙ length-map-range_with_len (other c.args.source) 0 (length c.args.order.now - 1) in
    record {
      source = ap (λ (fan : FanView). fan.src) c.in_ok-fan.ensures;
      targets = ap (λ (fan : FanView). fan.targets) c.in_ok-fan.ensures ∙ targets;
      tables = tables_none (length c.args.order.now - 1) c.in_ok-fan.fan.tables (ap (λ (fan : FanView). fan.tables) c.in_ok-fan.ensures ∙ ap (λ (n : ℕ). replicate n []) size) _;
      width = ap length (zeros_of most_processes (c.procs-procs.result - 1) (omega (arith, c.procs-procs.ensures.count, c.procs-procs.ensures.shape.few))) ∙ (zero_counts (c.procs-procs.result - 1) 0).0 ∙ ap (λ (n : ℕ). n - 1) procs;
    }

pub past-requires-clause-none : goal.past-requires-clause-none
past-requires-clause-none c =
    λ target. ap (λ (xs : List ℕ). count xs target) (zeros_of most_processes c.procs-procs.result (omega (arith, c.procs-procs.ensures.count, c.procs-procs.ensures.shape.few))) ∙ (zero_counts c.procs-procs.result target).1

pub push_row-requires-clause-width : goal.push_row-requires-clause-width
push_row-requires-clause-width c =
    let inv = c.loop-position.invariant in
    c.leave_out.ensures.width ∙ inv.width ∙ sym (ap length inv.targets ∙ length-map-range_with_len (other c.args.source) 0 (length c.args.order.now - 1))

pub push_row-requires-clause-entries : goal.push_row-requires-clause-entries
push_row-requires-clause-entries c =
    let at : c.min.result ≡ min c.loop-position.position (count (lengths c.args.order.now) c.args.source) =
    omega (arith, c.min.ensures, c.len_of-len.ensures.len, ap (λ (lens : List ℕ). get_or lens c.args.source 0) c.shape-shape.ensures.lens) in
    order_row_small c.args.order.now c.shape-shape.ensures.order c.shape-shape.ensures.shape.events c.args.source c.min.result (omega (arith, at)) c.leave_out.new.into
    (λ k less. c.leave_out.ensures.counts k less ∙ c.past.ensures.past (other c.args.source k))

pub loop-position-preserved : goal.loop-position-preserved
loop-position-preserved c =
    let inv = c.loop-position.invariant in
    let at : c.min.result ≡ min c.loop-position.position (count (lengths c.args.order.now) c.args.source) =
    omega (arith, c.min.ensures, c.len_of-len.ensures.len, ap (λ (lens : List ℕ). get_or lens c.args.source 0) c.shape-shape.ensures.lens) in
    record {
      source = c.push_row.ensures.source ∙ inv.source;
      targets = c.push_row.ensures.targets ∙ inv.targets;
      tables = tables_more (λ k. order_entry c.args.order.now c.args.source (other c.args.source k)) (length c.args.order.now - 1) c.loop-position.position c.leave_out.new.into _ _ inv.tables c.in_ok-push_row.ensures.row
          (λ k there. c.leave_out.ensures.counts k (omega (arith, there, c.leave_out.ensures.width, inv.width)) ∙ c.past.ensures.past (other c.args.source k) ∙ ap (past_count c.args.order.now c.args.source (other c.args.source k)) at);
      width = c.leave_out.ensures.width ∙ inv.width;
    }

pub returns : goal.returns
returns c =
    let inv = c.loop-position.invariant in
    let end : c.loop-position.position ≡ count (lengths c.args.order.now) c.args.source + 2 =
    omega (arith, c.loop-position-test.false, c.loop-position.auto.position-end, c.len_of-len.ensures.len, ap (λ (lens : List ℕ). get_or lens c.args.source 0) c.shape-shape.ensures.lens) in
    let P : ℕ → Type 0 = λ n. AreTables (λ k. order_entry c.args.order.now c.args.source (other c.args.source k)) (length c.args.order.now - 1) n c.loop-position.fan.tables in
    fan_pulls c.loop-position.fan c.args.source (length c.args.order.now - 1) (count (lengths c.args.order.now) c.args.source + 2) (other c.args.source)
    (λ k. order_entry c.args.order.now c.args.source (other c.args.source k)) inv.source inv.targets (subst P end inv.tables)
    ∙ sym (flat_others c.args.source (λ j. record { src = c.args.source; dst = j; table = order_table c.args.order.now c.args.source j }) (length c.args.order.now) c.requires)
