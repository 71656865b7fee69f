-- What the code's values show.
use Rattle.std.specs.Prelude.{Bool, List, map, Option, None, Some, if◌then◌else◌}
use Rattle.std.specs.Borrow.{Bor}
use Rattle.run_model.specs.Run.{Name}
use Rattle.rctl_grammar.specs.declared.tree.Place.{Place}
use Rattle.rctl_class.specs.declared.named.NamedExpr.{NamedExpr}
use Rattle.rctl_class.specs.declared.named.NamedPart.{NamedPart}
use Rattle.rctl_class.specs.NamedParts.{Expr, Exprs, NamedPiece, expr_of, exprs, piece_of}

-- the place that is lent
abbrev pub place_seen : Option (Bor Place) → Option Place
place_seen None = None
place_seen (Some p) = Some p.now

-- its name
abbrev pub name_seen : Option (Bor Place) → Option Name
name_seen None = None
name_seen (Some p) = Some p.now.name

-- the expression, where there is one
abbrev pub expr_seen : Option NamedExpr → Option Expr
expr_seen None = None
expr_seen (Some e) = Some (expr_of e)

-- the members, where there are such
abbrev pub exprs_seen : Option (List NamedExpr) → Option Exprs
exprs_seen None = None
exprs_seen (Some es) = Some (exprs (map expr_of es))

-- the part, where there is one
abbrev pub part_seen : Option NamedPart → Option NamedPiece
part_seen None = None
part_seen (Some p) = Some (piece_of p)

-- there is one exactly where the test holds
abbrev pub some_if : {A : Type 0} → Bool → A → Option A
some_if test x = if test then Some x else None
