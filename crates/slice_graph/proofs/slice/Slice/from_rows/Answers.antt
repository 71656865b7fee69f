use Rattle.std.proofs.Common.{◌≡◌, ◌+◌, ◌≤◌, List, ℕ, length, [], sum, take, get_or, replicate, ap, sym, subst, ◌∙◌, arith}
use Rattle.std.proofs.lemmas.List.{length-replicate, take_all}
use Rattle.pota_base.specs.Limits.{most_processes}
use Rattle.run_model.proofs.Counts.{length-lengths}
use Rattle.slice_graph.specs.Views.{SliceView}
use Rattle.slice_graph.proofs.Building.{BuiltBy, built_none}
use Rattle.slice_graph.proofs.Kept.{KeptRow, kept_stands, kept_fits, kept_cuts}
use Rattle.slice_graph.proofs.Pushing.{built_rows, joined_none, joined_more, next_process}
use Rattle.slice_graph.proofs.RowByRow.{zeros_of}
use Rattle.slice_graph.proofs.slice.Slice.from_rows.Goals as goal

pub loop-process-init : goal.loop-process-init
loop-process-init c =
    let v = c.args.rows.now in
    let lens = c.shape-shape-2.ensures.shape in
    let none = c.in_ok-table.ensures ∙ ap (λ (ls : List ℕ). record { lens = ls; rows = [] }) lens in
    let procs : c.procs-procs.result ≡ length v.lens = c.procs-procs.ensures.count ∙ ap length lens in
    let zeros = zeros_of most_processes c.procs-procs.result (omega (arith, c.procs-procs.ensures.count, c.procs-procs.ensures.shape.few)) ∙ ap (λ (n : ℕ). replicate n 0) procs in
    let first : sum (take 0 v.lens) + 1 ≡ 1 = omega arith in record {
      built = subst (λ (n : ℕ). BuiltBy v.lens (KeptRow v.lens v.words) n c.push_each.new.table) (sym first)
          (built_rows v 0 1 c.in_ok-table.table c.push_each.new.table _ c.push_each.new.top (built_none v.lens (KeptRow v.lens v.words) c.in_ok-table.table none) c.in_ok-push_each.ensures.pushed);
      joined = joined_more v 0 1 c.in_ok-table.table c.push_each.new.table _ c.push_each.new.top (joined_none v.lens c.in_ok-table.table _ none zeros) c.in_ok-push_each.ensures.pushed;
      width = c.push_each.ensures.width ∙ ap length zeros ∙ length-replicate (length v.lens) 0;
    }

pub loop-process-preserved : goal.loop-process-preserved
loop-process-preserved c =
    let v = c.args.rows.now in
    let inv = c.loop-process.invariant in
    let i : ℕ = c.loop-process.process in
    let there : i + 1 ≤ length v.lens = omega (arith, c.loop-process-test.true, c.procs-procs.ensures.count, ap length c.shape-shape-2.ensures.shape) in record {
      built = subst (λ (n : ℕ). BuiltBy v.lens (KeptRow v.lens v.words) n c.push_process.new.table) (next_process v.lens i (omega (arith, there)))
          (built_rows v (sum (take i v.lens) + 1) (get_or v.lens i 0) c.loop-process.table c.push_process.new.table c.loop-process.top c.push_process.new.top inv.built c.in_ok-push_process.ensures.pushed);
      joined = joined_more v (sum (take i v.lens) + 1) (get_or v.lens i 0) c.loop-process.table c.push_process.new.table c.loop-process.top c.push_process.new.top inv.joined c.in_ok-push_process.ensures.pushed;
      width = c.push_process.ensures.width ∙ inv.width;
    }

pub returns-clause-lens : goal.returns-clause-lens
returns-clause-lens c = ap (λ (v : SliceView). v.lens) c.with_top.ensures ∙ c.loop-process.invariant.built.shape ∙ c.requires

pub set_words-requires-clause-width : goal.set_words-requires-clause-width
set_words-requires-clause-width c =
    omega (arith, c.loop-process.invariant.width, ap length c.in_ok-greatest.ensures, length-replicate {A = ℕ} c.procs-procs.result 0, c.procs-procs.ensures.count, ap length c.shape-shape-2.ensures.shape)

pub set_words-requires-clause-few : goal.set_words-requires-clause-few
set_words-requires-clause-few c = omega (arith, c.loop-process.invariant.width, c.procs-procs.ensures.shape.few, ap length c.shape-shape-2.ensures.shape)

-- the rows are all there
all_rows : (lens : List ℕ) (i procs : ℕ) → procs ≡ length lens → procs ≤ i → sum (take i lens) + 1 ≡ sum lens + 1
all_rows lens i procs is past = ap (λ (ls : List ℕ). sum ls + 1) (take_all i lens (omega (arith, is, past)))

pub with_top-requires-clause-count : goal.with_top-requires-clause-count
with_top-requires-clause-count c =
    let v = c.args.rows.now in
    let all = all_rows v.lens c.loop-process.process c.procs-procs.result (c.procs-procs.ensures.count ∙ ap length c.shape-shape-2.ensures.shape) (omega (arith, c.loop-process-test.false)) in
    c.loop-process.invariant.built.size ∙ all ∙ ap (λ (ls : List ℕ). sum ls + 1) (sym c.loop-process.invariant.built.shape)

pub with_top-requires-clause-top : goal.with_top-requires-clause-top
with_top-requires-clause-top c = c.set_words.ensures ∙ c.loop-process.invariant.joined

pub returns-clause-kept : goal.returns-clause-kept
returns-clause-kept c = λ row there.
    let v = c.args.rows.now in
    let n : ℕ = sum (take c.loop-process.process v.lens) + 1 in
    let all = all_rows v.lens c.loop-process.process c.procs-procs.result (c.procs-procs.ensures.count ∙ ap length c.shape-shape-2.ensures.shape) (omega (arith, c.loop-process-test.false)) in
    (subst (BuiltBy v.lens (KeptRow v.lens v.words) n) (sym c.with_top.ensures) c.loop-process.invariant.built).each row (omega (arith, there, all))

pub returns-clause-stands : goal.returns-clause-stands
returns-clause-stands c =
    let v = c.args.rows.now in
    let n : ℕ = sum (take c.loop-process.process v.lens) + 1 in
    let all = all_rows v.lens c.loop-process.process c.procs-procs.result (c.procs-procs.ensures.count ∙ ap length c.shape-shape-2.ensures.shape) (omega (arith, c.loop-process-test.false)) in
    kept_stands c.args.order.now v.lens v.words c.with_top.result n (subst (BuiltBy v.lens (KeptRow v.lens v.words) n) (sym c.with_top.ensures) c.loop-process.invariant.built) all c.requires (length-lengths c.args.order.now)

pub returns-clause-fits : goal.returns-clause-fits
returns-clause-fits c =
    let v = c.args.rows.now in
    let n : ℕ = sum (take c.loop-process.process v.lens) + 1 in
    let all = all_rows v.lens c.loop-process.process c.procs-procs.result (c.procs-procs.ensures.count ∙ ap length c.shape-shape-2.ensures.shape) (omega (arith, c.loop-process-test.false)) in
    kept_fits c.args.order.now c.shape-shape.ensures.order v.lens v.words c.with_top.result n (subst (BuiltBy v.lens (KeptRow v.lens v.words) n) (sym c.with_top.ensures) c.loop-process.invariant.built) all c.requires
    (length-lengths c.args.order.now)

pub returns-clause-cuts : goal.returns-clause-cuts
returns-clause-cuts c =
    let v = c.args.rows.now in
    let n : ℕ = sum (take c.loop-process.process v.lens) + 1 in
    let all = all_rows v.lens c.loop-process.process c.procs-procs.result (c.procs-procs.ensures.count ∙ ap length c.shape-shape-2.ensures.shape) (omega (arith, c.loop-process-test.false)) in
    kept_cuts c.args.order.now c.shape-shape.ensures.order v.lens v.words c.with_top.result n (subst (BuiltBy v.lens (KeptRow v.lens v.words) n) (sym c.with_top.ensures) c.loop-process.invariant.built) all c.requires
    (length-lengths c.args.order.now)
