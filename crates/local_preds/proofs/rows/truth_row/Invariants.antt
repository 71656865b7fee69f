use Rattle.std.proofs.Common.{◌≡◌, map}
use Rattle.std.specs.List.{range_with_len}
use Rattle.rctl_parts.specs.Exprs.{expr_of}
use Rattle.local_preds.specs.Rows.{truth_at}
use Rattle.local_preds.proofs.rows.truth_row.Given as goal

abbrev pub invariant-loop-position : goal.invariant-loop-position
invariant-loop-position l = l.row.items ≡ map (truth_at l.states l.process l.watch_rows (expr_of l.expr)) (range_with_len 0 l.position)
