-- What a question over processes may not have: a watch, which is handed in for one process, and a
-- difference of variables, of which each process that is put in could let one fall.
use Rattle.std.specs.Prelude.{List, [], ◌∷◌, Option, None, Some}
use Rattle.rctl_grammar.specs.declared.tree.Place.{Place}
use Rattle.rctl_class.specs.NamedParts.{Expr, Exprs, NamedPiece, Pieces}
use Rattle.rctl_class.specs.NamedParts.{truth, comparison, watched, negation, conjunction}
use Rattle.rctl_class.specs.NamedParts.{disjunction, no_expr, and_expr, local, at_most, at_least}
use Rattle.rctl_class.specs.NamedParts.{never, diff_at_most, diff_at_least, temporal, next}
use Rattle.rctl_class.specs.NamedParts.{no_piece, and_piece}
use Rattle.over_questions.specs.declared.barred.Barred.{Barred}
use Rattle.over_questions.specs.declared.barred.BarredKind.{BarredKind}
use Rattle.over_questions.specs.declared.barred.BarredKind.TheVariants as kind

-- one of this kind at a place
abbrev pub barred_at : BarredKind → Place → Option Barred
barred_at of place = Some (record { kind = of; place = place.at })

-- the first of two
abbrev pub first : Option Barred → Option Barred → Option Barred
first None other = other
first (Some one) other = Some one

abbrev mutual
  -- the first watch of an expression
  pub barred_expr : Expr → Option Barred
  barred_expr (truth value) = None
  barred_expr (comparison left compare right) = None
  barred_expr (watched name) = barred_at kind.Watch name
  barred_expr (negation e) = barred_expr e
  barred_expr (conjunction es) = barred_exprs es
  barred_expr (disjunction es) = barred_exprs es

  -- that of its members
  pub barred_exprs : Exprs → Option Barred
  barred_exprs no_expr = None
  barred_exprs (and_expr e es) = first (barred_expr e) (barred_exprs es)

abbrev mutual
  -- the first watch or difference of a part
  pub barred_part : NamedPiece → Option Barred
  barred_part (local on e) = barred_expr e
  barred_part (at_most p q k) = None
  barred_part (at_least p q k) = None
  barred_part (never p q) = None
  barred_part (diff_at_most p x q y k) = barred_at kind.Difference p
  barred_part (diff_at_least p x q y k) = barred_at kind.Difference p
  barred_part (temporal operator ps) = barred_operand ps
  barred_part (next p ps) = barred_operand ps

  -- that of an operand
  pub barred_operand : Pieces → Option Barred
  barred_operand no_piece = None
  barred_operand (and_piece p ps) = first (barred_part p) (barred_operand ps)

-- that of a conjunction
abbrev pub barred_parts : List NamedPiece → Option Barred
barred_parts [] = None
barred_parts (p ∷ ps) = first (barred_part p) (barred_parts ps)

-- that of all disjuncts
abbrev pub barred_disjuncts : List (List NamedPiece) → Option Barred
barred_disjuncts [] = None
barred_disjuncts (d ∷ ds) = first (barred_parts d) (barred_disjuncts ds)
