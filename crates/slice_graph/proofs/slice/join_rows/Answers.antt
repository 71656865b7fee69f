use Rattle.std.proofs.Common.{rules, ◌≡◌, ◌∙◌, ℕ, length, replicate, ap, arith}
use Rattle.run_model.specs.Cut.{Cut}
use Rattle.pota_base.specs.Limits.{most_processes}
use Rattle.slice_graph.specs.Views.{joined_onto}
use Rattle.slice_graph.proofs.RowByRow.{zeros_of, zero_counts}
use Rattle.slice_graph.proofs.slice.join_rows.Goals as goal

pub loop-row-init : goal.loop-row-init
loop-row-init c =
    let procs : c.procs-procs.result ≡ length c.args.table.now.lens = search rules in
    let zeros = zeros_of most_processes c.procs-procs.result (omega (arith, c.procs-procs.ensures.count, c.procs-procs.ensures.shape.few)) ∙ ap (λ (n : ℕ). replicate n 0) procs in
    record {
      width = ap length zeros ∙ (zero_counts (length c.args.table.now.lens) 0).0;
      joined = ap (λ (t : Cut). joined_onto t c.args.table.now.rows) zeros;
    }
