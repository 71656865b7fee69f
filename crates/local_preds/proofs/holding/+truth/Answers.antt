use Rattle.std.proofs.Common.{rules, ◌∙◌, sym, ap, subst}
use Rattle.rctl_parts.specs.Exprs.{Expr, expr_of}
use Rattle.rctl_parts.specs.declared.expr.LocalExpr.TheVariants as local_expr
use Rattle.rctl_parts.specs.declared.expr.LocalExpr.TheViews.{the_lemmas}
use Rattle.rctl_parts.proofs.Folds.{expr-Not, expr-And, expr-Or}
use Rattle.local_preds.specs.inside.Rows.{IsReadableIn}
use Rattle.local_preds.proofs.holding.+truth.Goals as goal

pub holds-holds-requires : goal.holds-holds-requires
holds-holds-requires t c = (
  search (rules, the_lemmas),
  (
    c.requires.state,
    subst (λ (e : Expr). IsReadableIn c.args.at.now e) (ap expr_of (c.in-Not.is ∙ ap local_expr.Not (sym c.get.ensures)) ∙ expr-Not c.get.result.now) c.requires.readable,
  ),
)

pub holds-all_hold-requires : goal.holds-all_hold-requires
holds-all_hold-requires t c = (
  search (rules, the_lemmas),
  (
    c.requires.state,
    subst (λ (e : Expr). IsReadableIn c.args.at.now e) (ap expr_of (c.in-And.is ∙ ap local_expr.And (sym c.as_slice.ensures)) ∙ expr-And c.as_slice.result.now) c.requires.readable,
  ),
)

pub holds-some_holds-requires : goal.holds-some_holds-requires
holds-some_holds-requires t c = (
  search (rules, the_lemmas),
  (
    c.requires.state,
    subst (λ (e : Expr). IsReadableIn c.args.at.now e) (ap expr_of (c.in-Or.is ∙ ap local_expr.Or (sym c.as_slice-in-Or.ensures)) ∙ expr-Or c.as_slice-in-Or.result.now) c.requires.readable,
  ),
)
