-- Lists of expressions, member by member.
use Rattle.std.proofs.Common.{◌≡◌, ℕ, ◌+◌, ◌<◌, ◌≤◌, List, [], ◌∷◌, map, drop, refl, ◌∙◌, arith}
use Rattle.std.specs.Prelude.{◌&&◌, ◌||◌}
use Rattle.rctl_parts.specs.declared.expr.LocalExpr.{LocalExpr}
use Rattle.rctl_parts.specs.Exprs.{Expr, Exprs, exprs, expr_of}
use Rattle.local_preds.specs.declared.holding.StateAt.{StateAt}
use Rattle.local_preds.specs.inside.Rows.{AreReadableIn, all_true_in}
use Rattle.local_preds.specs.inside.Rows.{some_true_in}

-- the members from place i on
abbrev pub left : List LocalExpr → ℕ → Exprs
left members i = exprs (map expr_of (drop i members))

-- Each of the members before place i is true: whether all are rests on those that are left.
pub record AllSoFar (at : StateAt) (members : List LocalExpr) (i : ℕ) : Type 0 where
  pub readable : AreReadableIn at (left members i)
  pub same : all_true_in at (exprs (map expr_of members)) ≡ all_true_in at (left members i)

-- None of the members before place i is true: whether some is rests on those that are left.
pub record NoneSoFar (at : StateAt) (members : List LocalExpr) (i : ℕ) : Type 0 where
  pub readable : AreReadableIn at (left members i)
  pub same : some_true_in at (exprs (map expr_of members)) ≡ some_true_in at (left members i)
