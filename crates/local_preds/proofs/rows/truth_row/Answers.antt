use Rattle.std.proofs.Common.{◌≡◌, ℕ, ◌+◌, ◌∙◌, Bool, List, length, map, get_or, ap, arith}
use Rattle.std.specs.List.{range_with_len}
use Rattle.rctl_parts.specs.Exprs.{expr_of}
use Rattle.local_preds.specs.Rows.{truth_at, len_at}
use Rattle.local_preds.proofs.RowSteps.{row_more, length-truths, lens-get_or}
use Rattle.local_preds.proofs.rows.truth_row.Goals as goal

pub loop-position-preserved : goal.loop-position-preserved
loop-position-preserved c =
    row_more (truth_at c.args.states.now c.args.process c.args.watch_rows.now (expr_of c.args.expr.now)) c.loop-position.position _ _ _
    c.loop-position.invariant c.holds.ensures c.in_ok-push.ensures.items

pub returns-clause-truths : goal.returns-clause-truths
returns-clause-truths c =
    let f = truth_at c.args.states.now c.args.process c.args.watch_rows.now (expr_of c.args.expr.now) in
    let len = c.len_of-len.ensures.len ∙ ap (λ (lens : List ℕ). get_or lens c.args.process 0) c.shape.ensures ∙ lens-get_or c.args.states.now.events c.args.process in
    let end : c.loop-position.position ≡ len_at c.args.states.now c.args.process + 1 = omega (arith, len, c.loop-position-test.false) in
    c.from_vec.ensures ∙ c.loop-position.invariant ∙ ap (λ (n : ℕ). map f (range_with_len 0 n)) end

pub returns-clause-len : goal.returns-clause-len
returns-clause-len c =
    ap (λ (row : List Bool). length row) (returns-clause-truths c) ∙ length-truths c.args.states.now c.args.process c.args.watch_rows.now (expr_of c.args.expr.now)
