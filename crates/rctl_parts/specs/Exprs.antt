-- A local expression as plain data, on which the rest goes by cases.
use Rattle.std.specs.Prelude.{ℕ, Bool, List, [], ◌∷◌}
use Rattle.rctl_grammar.specs.declared.tree.Compare.{Compare}
use Rattle.rctl_parts.specs.declared.expr.LocalSide.{LocalSide}
use Rattle.rctl_parts.specs.declared.expr.LocalExpr.{LocalExpr}
use Rattle.rctl_parts.specs.declared.expr.LocalExpr.TheOpen.{LocalExpr-F}
use Rattle.rctl_parts.specs.declared.expr.LocalExpr.TheFolds.{fold-LocalExpr}

mutual
  -- a local expression; variables and watches are numbers
  pub data Expr : Type 0 where
    truth : (value : Bool) → Expr
    comparison : (left : ℕ) (compare : Compare) (side : LocalSide) → Expr
    watch : (number : ℕ) → Expr
    negation : (e : Expr) → Expr
    conjunction : (es : Exprs) → Expr
    disjunction : (es : Exprs) → Expr

  -- any number of them
  pub data Exprs : Type 0 where
    none : Exprs
    more : (e : Expr) (es : Exprs) → Exprs

-- a list of expressions, as the members of one
abbrev pub exprs : List Expr → Exprs
exprs [] = none
exprs (e ∷ es) = more e (exprs es)

-- the members of an expression, as a list
abbrev pub listed : Exprs → List Expr
listed none = []
listed (more e es) = e ∷ listed es

-- one layer, with its members already seen
abbrev pub expr_step : LocalExpr-F Expr → Expr
expr_step (LocalExpr-F.Truth value) = truth value
expr_step (LocalExpr-F.Compare left compare side) = comparison left compare side
expr_step (LocalExpr-F.Watch number) = watch number
expr_step (LocalExpr-F.Not e) = negation e
expr_step (LocalExpr-F.And es) = conjunction (exprs es)
expr_step (LocalExpr-F.Or es) = disjunction (exprs es)

-- the expression that the code's value is
unfoldable pub expr_of : LocalExpr → Expr
expr_of = fold-LocalExpr Expr expr_step
