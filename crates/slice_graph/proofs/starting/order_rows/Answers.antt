use Rattle.std.specs.Prelude.{slice_index}
use Rattle.std.proofs.Common.{◌≡◌, ◌≤◌, ◌∙◌, ℕ, List, length, replicate, ap, arith}
use Rattle.std.proofs.lemmas.Result.{IfOk-weaker}
use Rattle.run_model.specs.Consistent.{clock}
use Rattle.run_model.proofs.Counts.{length-lengths}
use Rattle.pota_base.specs.Limits.{most_processes}
use Rattle.slice_graph.specs.PullLists.{pulls_of_order}
use Rattle.slice_graph.proofs.RowByRow.{zeros_of, zero_counts}
use Rattle.slice_graph.proofs.StartingRows.{above_zeros, max_zeros}
use Rattle.slice_graph.proofs.starting.order_rows.Goals as goal

pub order_rows_above-requires : goal.order_rows_above-requires
order_rows_above-requires c =
    let few : c.procs.result ≤ most_processes = omega (arith, c.procs.ensures.count, c.procs.ensures.shape.few) in
    let zeros = zeros_of most_processes c.procs.result few in
    record {
      size = ap length zeros ∙ (zero_counts c.procs.result 0).0 ∙ c.procs.ensures.count ∙ ap length c.shape.ensures.lens;
      within = λ i. omega (arith, ap (λ (l : List ℕ). slice_index l i) zeros, (zero_counts c.procs.result i).1);
    }

pub returns-clause-bottom : goal.returns-clause-bottom
returns-clause-bottom c =
    let o = c.args.order.now in
    let procs : c.procs.result ≡ length o = omega (arith, c.procs.ensures.count, ap length c.shape.ensures.lens, length-lengths o) in
    let zeros = zeros_of most_processes c.procs.result (omega (arith, c.procs.ensures.count, c.procs.ensures.shape.few)) ∙ ap (λ (n : ℕ). replicate n 0) procs in
    IfOk-weaker c.order_rows_above.result _ _ (λ rows is. is ∙ zeros) c.order_rows_above.ensures.bottom

pub returns-clause-events : goal.returns-clause-events
returns-clause-events c =
    let o = c.args.order.now in
    let procs : c.procs.result ≡ length o = omega (arith, c.procs.ensures.count, ap length c.shape.ensures.lens, length-lengths o) in
    let zeros = zeros_of most_processes c.procs.result (omega (arith, c.procs.ensures.count, c.procs.ensures.shape.few)) ∙ ap (λ (n : ℕ). replicate n 0) procs in
    IfOk-weaker c.order_rows_above.result _ _ (λ rows is. λ e there. is e there
    ∙ max_zeros (length o) (clock o e.process e.position) _ zeros (c.shape.ensures.order.shaped e.process e.position (omega (arith, there.first), there.last))) c.order_rows_above.ensures.events

pub returns-clause-begins : goal.returns-clause-begins
returns-clause-begins c =
    let o = c.args.order.now in
    let procs : c.procs.result ≡ length o = omega (arith, c.procs.ensures.count, ap length c.shape.ensures.lens, length-lengths o) in
    let zeros = zeros_of most_processes c.procs.result (omega (arith, c.procs.ensures.count, c.procs.ensures.shape.few)) ∙ ap (λ (n : ℕ). replicate n 0) procs in
    c.order_rows_above.ensures.begins (pulls_of_order o) (above_zeros o _ zeros)
