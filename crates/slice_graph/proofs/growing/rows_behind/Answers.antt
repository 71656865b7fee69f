use Rattle.std.proofs.Common.{◌≡◌, ◌∙◌, ◌+◌, ◌-◌, ◌*◌, ℕ, List, length, get_or, min, arith, ap, length-append}
use Rattle.run_model.specs.Cut.{lengths, count}
use Rattle.run_model.proofs.Counts.{length-lengths}
use Rattle.pota_base.specs.Limits.{most_processes}
use Rattle.slice_graph.specs.PullLists.{past_count, order_entry}
use Rattle.slice_graph.proofs.RowByRow.{zeros_of, zero_counts}
use Rattle.slice_graph.proofs.GrownOrder.{rows_more}
use Rattle.slice_graph.proofs.growing.rows_behind.Goals as goal

pub len_of-len-requires : goal.len_of-len-requires
len_of-len-requires c = omega (arith, c.requires.source, length-lengths c.args.order.now, ap length c.shape-shape.ensures.lens)

pub past-requires-clause-width : goal.past-requires-clause-width
past-requires-clause-width c =
    let procs : c.procs-procs.result ≡ length c.args.order.now = omega (arith, c.procs-procs.ensures.count, ap length c.shape-shape.ensures.lens, length-lengths c.args.order.now) in
    ap length (zeros_of most_processes c.procs-procs.result (omega (arith, c.procs-procs.ensures.count, c.procs-procs.ensures.shape.few))) ∙ (zero_counts c.procs-procs.result 0).0 ∙ procs

pub past-requires-clause-none : goal.past-requires-clause-none
past-requires-clause-none c =
    λ target. ap (λ (xs : List ℕ). count xs target) (zeros_of most_processes c.procs-procs.result (omega (arith, c.procs-procs.ensures.count, c.procs-procs.ensures.shape.few))) ∙ (zero_counts c.procs-procs.result target).1

pub loop-position-preserved : goal.loop-position-preserved
loop-position-preserved c =
    let inv = c.loop-position.invariant in
    let procs : ℕ = length c.args.order.now in
    let done : ℕ = c.loop-position.position - (c.args.first + 1) in
    let row : List ℕ = c.past.result.now in
    let place : c.args.first + 1 + done ≡ c.loop-position.position = omega (arith, inv.from) in
    let at : c.min.result ≡ min (c.args.first + 1 + done) (count (lengths c.args.order.now) c.args.source) =
    omega (arith, place, c.min.ensures, c.len_of-len.ensures.len, ap (λ (lens : List ℕ). get_or lens c.args.source 0) c.shape-shape.ensures.lens) in
    let one : c.loop-position.position + 1 - (c.args.first + 1) ≡ done + 1 = omega (arith, inv.from) in
    record {
      from = omega (arith, inv.from);
      size = ap length c.in_ok-extend_from_slice.ensures.items ∙ length-append c.loop-position.rows.items row
          ∙ omega (arith, inv.size, c.past.ensures.width, ap (λ (n : ℕ). n * procs) one);
      each = λ y j below there. ap (λ (xs : List ℕ). get_or xs (y * procs + j) 0) c.in_ok-extend_from_slice.ensures.items
          ∙ rows_more (λ n k. order_entry c.args.order.now c.args.source k (c.args.first + 1 + n)) procs done c.loop-position.rows.items row inv.size c.past.ensures.width inv.each
          (λ k _. c.past.ensures.past k ∙ ap (past_count c.args.order.now c.args.source k) at) y j (omega (arith, below, one)) there;
    }
