-- The formula that parts spell once names stand for the numbers of processes, variables and
-- watches.
use Rattle.std.specs.Prelude.{ℕ, List, [], ◌∷◌, map, get_or, Option, None, Some, false}
use Rattle.run_model.specs.Run.{Name}
use Rattle.run_model.specs.Formula as model
use Rattle.rctl_grammar.specs.declared.tree.Operator.{Operator}
use Rattle.rctl_grammar.specs.declared.tree.Operator.TheVariants as operator
use Rattle.rctl_grammar.specs.Shape.{relation_of}
use Rattle.rctl_parts.specs.declared.expr.LocalSide.{LocalSide}
use Rattle.rctl_parts.specs.declared.expr.LocalSide.TheVariants as side
use Rattle.rctl_parts.specs.Exprs as expr
use Rattle.rctl_parts.specs.Exprs.{Expr, Exprs}
use Rattle.rctl_parts.specs.Pieces as piece
use Rattle.rctl_parts.specs.Pieces.{Atom, Piece, Pieces}

-- the names that the numbers stand for: of the processes, of the variables of each, and of the
-- watches
pub record Names : Type 0 where
  pub processes : List Name
  pub variables : List (List Name)
  pub watches : List Name

-- the name of a number
abbrev pub numbered_name : List Name → ℕ → Name
numbered_name names i = get_or names i []

-- the right side of a comparison, over the variables of a process
abbrev pub side_in : List Name → Name → LocalSide → model.Side
side_in variables process (side.Number value) = model.Number value
side_in variables process (side.Variable v) = model.Variable process (numbered_name variables v)

abbrev mutual
  -- a local expression over the variables of a process, and the watches
  pub formula_in : List Name → List Name → Name → Expr → model.Formula
  formula_in variables watches process (expr.truth value) = model.Truth value
  formula_in variables watches process (expr.comparison left compare right) =
      model.Comparison process (numbered_name variables left) (relation_of compare)
      (side_in variables process right)
  formula_in variables watches process (expr.watch number) =
      model.Watched process (numbered_name watches number)
  formula_in variables watches process (expr.negation e) =
      model.Not (formula_in variables watches process e)
  formula_in variables watches process (expr.conjunction es) =
      model.And (formulas_in variables watches process es)
  formula_in variables watches process (expr.disjunction es) =
      model.Or (formulas_in variables watches process es)

  -- its members
  pub formulas_in : List Name → List Name → Name → Exprs → model.Formulas
  formulas_in variables watches process expr.none = model.Nil
  formulas_in variables watches process (expr.more e es) =
      model.Cons (formula_in variables watches process e) (formulas_in variables watches process es)

-- the name of a process's variable
abbrev pub variable_at : Names → ℕ → ℕ → Name
variable_at names p x = numbered_name (get_or names.variables p []) x

-- an expression over a process, or over none
abbrev pub local_formula : Names → Option ℕ → Expr → model.Formula
local_formula names None e = formula_in [] [] [] e
local_formula names (Some p) e =
    formula_in (get_or names.variables p []) names.watches (numbered_name names.processes p) e

-- the formula of an atom
abbrev pub atom_formula : Names → Atom → model.Formula
atom_formula names (piece.local process e) = local_formula names process e
atom_formula names (piece.at_most p q k) =
    model.InTransit (numbered_name names.processes p) (numbered_name names.processes q)
    model.LessOrEqual k
atom_formula names (piece.at_least p q k) =
    model.InTransit (numbered_name names.processes p) (numbered_name names.processes q)
    model.GreaterOrEqual k
atom_formula names piece.never = model.Truth false
atom_formula names (piece.diff_at_most p x q y k) =
    model.Difference (numbered_name names.processes p) (variable_at names p x)
    (numbered_name names.processes q) (variable_at names q y) model.LessOrEqual k
atom_formula names (piece.diff_at_least p x q y k) =
    model.Difference (numbered_name names.processes p) (variable_at names p x)
    (numbered_name names.processes q) (variable_at names q y) model.GreaterOrEqual k

-- an operator over an operand: that of a process's number is the next event of the process
abbrev pub operated : Names → Operator → model.Formula → model.Formula
operated names operator.Ef f = model.Temporal model.Ef f
operated names operator.Ag f = model.Temporal model.Ag f
operated names operator.Eg f = model.Temporal model.Eg f
operated names (operator.Ex p) f = model.Next (numbered_name names.processes p) f
operated names operator.Af f = model.Temporal model.Af f
operated names operator.Ax f = model.Temporal model.Ax f

abbrev mutual
  -- the formula of a part
  pub formula_of : Names → Piece → model.Formula
  formula_of names (piece.atom a) = atom_formula names a
  formula_of names (piece.temporal operator ps) =
      operated names operator (model.And (formulas_of names ps))

  -- those of the parts of an operand
  pub formulas_of : Names → Pieces → model.Formulas
  formulas_of names piece.none = model.Nil
  formulas_of names (piece.more p ps) = model.Cons (formula_of names p) (formulas_of names ps)

-- the conjunction of some parts
abbrev pub conjunction_of : Names → List Piece → model.Formula
conjunction_of names ps = model.And (formulas_of names (piece.pieces ps))

-- the conjunctions of some disjuncts
abbrev pub conjunctions_of : Names → List (List Piece) → model.Formulas
conjunctions_of names [] = model.Nil
conjunctions_of names (d ∷ ds) = model.Cons (conjunction_of names d) (conjunctions_of names ds)

-- the disjunction of the conjunctions
abbrev pub disjunction_of : Names → List (List Piece) → model.Formula
disjunction_of names ds = model.Or (conjunctions_of names ds)

-- the formulas of the parts of some disjuncts
abbrev pub part_formulas : Names → List (List Piece) → List (List model.Formula)
part_formulas names ds = map (map (formula_of names)) ds
