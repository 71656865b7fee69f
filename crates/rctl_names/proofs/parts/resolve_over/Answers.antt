use Rattle.std.proofs.Common.{◌∙◌, arith}
use Rattle.rctl_class.specs.NamedParts.{expr_of as named_expr}
use Rattle.rctl_parts.specs.Exprs.{expr_of}
use Rattle.rctl_parts.proofs.Folds.{piece-Local}
use Rattle.rctl_names.proofs.Made.{over_made, got}
use Rattle.rctl_names.proofs.parts.resolve_over.Goals as goal

pub returns : goal.returns
returns c =
    over_made c.args.scope.now c.args.watches.now c.resolve_expr.new.watches c.args.place.now c.in_ok-number.number c.as_slice-variables.result.now (named_expr c.args.expr.now)
    (expr_of c.in_ok-resolve_expr.field-0) c.in_ok-number.ensures.0
    (c.as_slice-variables.ensures ∙ got c.args.scope.now.variables.now c.in_ok-number.number c.index-scope-number.result (omega (arith, c.args.scope.now.paired, c.in_ok-number.ensures.1)))
    (piece-Local _ _) c.in_ok-resolve_expr.ensures.0.0 c.in_ok-resolve_expr.ensures.0.1 c.in_ok-resolve_expr.ensures.1
