-- A part as plain data: an atom, or an operator over parts.
use Rattle.std.specs.Prelude.{ℕ, ℤ, List, [], ◌∷◌, map, Option}
use Rattle.rctl_grammar.specs.declared.tree.Operator.{Operator}
use Rattle.rctl_parts.specs.declared.part.Part.{Part}
use Rattle.rctl_parts.specs.declared.part.Part.TheOpen.{Part-F}
use Rattle.rctl_parts.specs.declared.part.Part.TheFolds.{fold-Part}
use Rattle.rctl_parts.specs.Exprs.{Expr, expr_of}

-- a part without an operator
pub data Atom : Type 0 where
  local : (process : Option ℕ) (e : Expr) → Atom
  at_most : (sender receiver k : ℕ) → Atom
  at_least : (sender receiver k : ℕ) → Atom
  never : Atom
  -- a variable of the left process, less one of the right process, against k
  diff_at_most : (left_process left right_process right : ℕ) (k : ℤ) → Atom
  diff_at_least : (left_process left right_process right : ℕ) (k : ℤ) → Atom

mutual
  -- a part
  pub data Piece : Type 0 where
    atom : (a : Atom) → Piece
    temporal : (operator : Operator) (ps : Pieces) → Piece

  -- a conjunction of parts
  pub data Pieces : Type 0 where
    none : Pieces
    more : (p : Piece) (ps : Pieces) → Pieces

-- a list of parts, as an operand
abbrev pub pieces : List Piece → Pieces
pieces [] = none
pieces (p ∷ ps) = more p (pieces ps)

-- the parts of an operand, as a list
abbrev pub listed : Pieces → List Piece
listed none = []
listed (more p ps) = p ∷ listed ps

-- one layer, with its operands already seen
abbrev pub piece_step : Part-F Piece → Piece
piece_step (Part-F.Local process expr) = atom (local process (expr_of expr))
piece_step (Part-F.AtMost sender receiver k) = atom (at_most sender receiver k)
piece_step (Part-F.AtLeast sender receiver k) = atom (at_least sender receiver k)
piece_step Part-F.Never = atom never
piece_step (Part-F.DiffAtMost left_process left right_process right k) =
    atom (diff_at_most left_process left right_process right k)
piece_step (Part-F.DiffAtLeast left_process left right_process right k) =
    atom (diff_at_least left_process left right_process right k)
piece_step (Part-F.Temporal operator ps) = temporal operator (pieces ps)

-- the part that the code's value is
unfoldable pub piece_of : Part → Piece
piece_of = fold-Part Piece piece_step

-- the parts of a list of them
abbrev pub pieces_of : List Part → List Piece
pieces_of parts = map piece_of parts

-- the disjuncts, each by its parts
abbrev pub disjuncts_of : List (List Part) → List (List Piece)
disjuncts_of disjuncts = map pieces_of disjuncts
