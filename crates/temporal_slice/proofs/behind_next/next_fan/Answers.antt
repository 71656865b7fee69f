use Rattle.std.proofs.Common.{rules, ◌≡◌, ◌+◌, ◌<◌, ◌≤◌, ◌∙◌, ℕ, List, [], length, get_or, map, replicate, arith, ap, sym, subst}
use Rattle.std.specs.List.{range_with_len}
use Rattle.std.proofs.lemmas.List.{map-id, length-replicate}
use Rattle.std.proofs.lemmas.List.FromFn.{length-map-range_with_len}
use Rattle.run_model.specs.Cut.{count}
use Rattle.pull_fans.specs.Fans.{FanView, AreTables}
use Rattle.slice_graph.proofs.RowByRow.{tables_none, tables_more}
use Rattle.slice_graph.proofs.Fans.{fan_pulls, flat_ones}
use Rattle.temporal_slice.specs.NextPulls.{next_entry, next_table}
use Rattle.temporal_slice.proofs.NextPulls.{asked_small}
use Rattle.temporal_slice.proofs.behind_next.next_fan.Goals as goal

pub loop-position-init : goal.loop-position-init
loop-position-init c =
    let procs : c.procs.result ≡ length c.args.child.now.lens = omega (arith, c.procs.ensures.count, ap length c.shape-shape.ensures.lens) in
    let targets : c.in_ok-targets.targets ≡ map (λ k. k) (range_with_len 0 (length c.args.child.now.lens)) =
    c.in_ok-targets.ensures ∙ ap (λ (n : ℕ). range_with_len 0 n) procs ∙ sym (map-id (range_with_len 0 (length c.args.child.now.lens))) in
    let size : length c.in_ok-targets.targets ≡ length c.args.child.now.lens = ap length targets ∙ length-map-range_with_len (λ k. k) 0 (length c.args.child.now.lens) in
    record {
      source = ap (λ (fan : FanView). fan.src) c.in_ok-fan.ensures;
      targets = ap (λ (fan : FanView). fan.targets) c.in_ok-fan.ensures ∙ targets;
      tables = tables_none (length c.args.child.now.lens) c.in_ok-fan.fan.tables (ap (λ (fan : FanView). fan.tables) c.in_ok-fan.ensures ∙ ap (λ (n : ℕ). replicate n []) size) _;
      width = ap length c.in_ok-asked.ensures ∙ length-replicate _ 0 ∙ omega (arith, c.procs.ensures.count, c.procs-2.ensures.count, ap length c.shape-shape.ensures.lens);
    }

pub push_row-requires-clause-width : goal.push_row-requires-clause-width
push_row-requires-clause-width c =
    ap length c.as_slice.ensures ∙ c.set_asked.ensures.width ∙ sym (ap length c.loop-position.invariant.targets ∙ length-map-range_with_len (λ k. k) 0 (length c.args.child.now.lens))

pub push_row-requires-clause-entries : goal.push_row-requires-clause-entries
push_row-requires-clause-entries c =
    asked_small c.args.child.now c.shape-shape.ensures.rows c.args.process c.args.source c.loop-position.position c.as_slice.result.now (ap length c.as_slice.ensures ∙ c.set_asked.ensures.width)
    (λ j there. ap (λ (xs : List ℕ). get_or xs j 0) c.as_slice.ensures ∙ c.set_asked.ensures.asked j there)

pub loop-position-preserved : goal.loop-position-preserved
loop-position-preserved c =
    let inv = c.loop-position.invariant in
    record {
      source = c.push_row.ensures.source ∙ inv.source;
      targets = c.push_row.ensures.targets ∙ inv.targets;
      tables = tables_more (next_entry c.args.child.now c.args.process c.args.source) (length c.args.child.now.lens) c.loop-position.position c.as_slice.result.now _ _ inv.tables c.in_ok-push_row.ensures.row
          (λ j there. ap (λ (xs : List ℕ). get_or xs j 0) c.as_slice.ensures ∙ c.set_asked.ensures.asked j there);
      width = c.set_asked.ensures.width;
    }

pub returns : goal.returns
returns c =
    let inv = c.loop-position.invariant in
    let v = c.args.child.now in
    let end : c.loop-position.position ≡ count v.lens c.args.source + 2 =
    omega (arith, c.loop-position-test.false, c.loop-position.auto.position-end, c.len_of-len.ensures.len, ap (λ (lens : List ℕ). get_or lens c.args.source 0) c.shape-shape.ensures.lens) in
    let P : ℕ → Type 0 = λ n. AreTables (next_entry v c.args.process c.args.source) (length v.lens) n c.loop-position.fan.tables in
    fan_pulls c.loop-position.fan c.args.source (length v.lens) (count v.lens c.args.source + 2) (λ k. k) (next_entry v c.args.process c.args.source) inv.source inv.targets (subst P end inv.tables)
    ∙ sym (flat_ones (λ j. record { src = c.args.source; dst = j; table = next_table v c.args.process c.args.source j }) 0 (length v.lens))
