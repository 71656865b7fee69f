-- The text of a part by names: that of the formula that it is, in the one spelling of formulas.
use Rattle.std.specs.Prelude.{ℕ, List, [], ◌∷◌}
use Rattle.rctl_grammar.specs.declared.tree.Compare.TheVariants.{Lt, Le, Ge}
use Rattle.rctl_grammar.specs.Shape.{PlainSide, number, variable, Shape, plain, not, under_of}
use Rattle.rctl_grammar.specs.Shape.{stepped, conjunction_of, disjunction_of}
use Rattle.rctl_grammar.specs.Shape as atom
use Rattle.rctl_print.specs.Canonical.{canonical}
use Rattle.rctl_class.specs.declared.named.NamedSide.{NamedSide}
use Rattle.rctl_class.specs.declared.named.NamedSide.TheVariants as side
use Rattle.rctl_class.specs.NamedParts.{Expr, truth, comparison, watched, negation, conjunction}
use Rattle.rctl_class.specs.NamedParts.{disjunction, Exprs, no_expr, and_expr, name_on, NamedPiece}
use Rattle.rctl_class.specs.NamedParts.{local, at_most, at_least, never, diff_at_most}
use Rattle.rctl_class.specs.NamedParts.{diff_at_least, temporal, next, Pieces, no_piece, and_piece}

-- the right side of a comparison over a process
abbrev pub side_shape : List ℕ → NamedSide → PlainSide
side_shape process (side.Number value) = number value
side_shape process (side.Variable name) = variable process name.name

abbrev mutual
  -- the formula of an expression over a process
  pub expr_shape : List ℕ → Expr → Shape
  expr_shape process (truth value) = plain (atom.truth value)
  expr_shape process (comparison left compare right) =
      plain (atom.comparison process left.name compare (side_shape process right))
  expr_shape process (watched name) = plain (atom.watch process name.name)
  expr_shape process (negation e) = not (expr_shape process e)
  expr_shape process (conjunction es) = conjunction_of (expr_shapes process es)
  expr_shape process (disjunction es) = disjunction_of (expr_shapes process es)

  -- those of its members
  pub expr_shapes : List ℕ → Exprs → List Shape
  expr_shapes process no_expr = []
  expr_shapes process (and_expr e es) = expr_shape process e ∷ expr_shapes process es

abbrev mutual
  -- the formula of a part; what is false at every cut is fewer than no message in transit
  pub piece_shape : NamedPiece → Shape
  piece_shape (local on e) = expr_shape (name_on on) e
  piece_shape (at_most p q k) = plain (atom.transit p.name q.name Le k)
  piece_shape (at_least p q k) = plain (atom.transit p.name q.name Ge k)
  piece_shape (never p q) = plain (atom.transit p.name q.name Lt 0)
  piece_shape (diff_at_most p x q y k) = plain (atom.difference p.name x.name q.name y.name Le k)
  piece_shape (diff_at_least p x q y k) = plain (atom.difference p.name x.name q.name y.name Ge k)
  piece_shape (temporal operator ps) = under_of operator (conjunction_of (piece_shapes ps))
  piece_shape (next p ps) = stepped p.name (conjunction_of (piece_shapes ps))

  -- those of the parts of an operand
  pub piece_shapes : Pieces → List Shape
  piece_shapes no_piece = []
  piece_shapes (and_piece p ps) = piece_shape p ∷ piece_shapes ps

-- the text of a part
abbrev pub part_text : NamedPiece → List ℕ
part_text p = canonical (piece_shape p)
