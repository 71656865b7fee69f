use Rattle.std.proofs.Common.{◌≡◌, ℕ, ◌+◌, Bool, List, length, get_or, ap, sym, subst, ◌∙◌, arith}
use Rattle.event_log.specs.declared.log.Binding.{Binding}
use Rattle.event_log.specs.declared.log.Header.{Header}
use Rattle.event_log.specs.States.{StatesView}
use Rattle.local_preds.proofs.RowSteps.{lens-get_or}
use Rattle.layer_rows.proofs.Atoms.{comparison_readable}
use Rattle.layer_rows.proofs.atom.comparison_pulls.Goals as goal

pub truth_row-requires-clause-readable : goal.truth_row-requires-clause-readable
truth_row-requires-clause-readable c =
    let header = ap (λ (h : Header). length h.vars) c.header-header.ensures.header in
    comparison_readable c.args.states.now _ c.in-Some.process c.in-Some-number_at.left _ _ c.get.result.now
    (omega (arith, header, c.len.ensures, c.if-process-len.false))
    (subst (λ (h : Header). c.get.result.now ≡ get_or h.vars c.in-Some.process c.get.result.now) c.header-header.ensures.header c.get.ensures.indexed)
    (omega (arith, c.len-2.ensures, c.if-left-len.false))

pub pulls_of-requires-clause-row : goal.pulls_of-requires-clause-row
pulls_of-requires-clause-row c =
    let len = lens-get_or c.args.states.now.events c.in-Some.process in
    let shape = ap (λ (lens : List ℕ). get_or lens c.in-Some.process 0) c.shape-2.ensures in
    ap (λ (row : List Bool). length row) c.as_slice.ensures ∙ omega (arith, c.in_ok-row.ensures.len, len, shape)
