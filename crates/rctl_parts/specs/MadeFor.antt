-- When parts are made for a header and for watches: each number in them is there, and each watch is
-- on one process.
use Rattle.std.specs.Prelude.{◌≡◌, ℕ, ◌+◌, ◌^◌, ◌<◌, ◌≤◌, ◌==◌, Bool, true, false, ◌&&◌, ◌||◌, List}
use Rattle.std.specs.Prelude.{[], ◌∷◌, length, get_or, Option, None, Some, ⊤, ℤ, pos, neg_ℤ, ◌≤ℤ◌}
use Rattle.pota_base.specs.Limits.{most_disjuncts, most_parts}
use Rattle.rctl_grammar.specs.declared.tree.Operator.{Operator}
use Rattle.rctl_grammar.specs.declared.tree.Operator.TheVariants as operator
use Rattle.rctl_parts.specs.declared.expr.LocalSide.{LocalSide}
use Rattle.rctl_parts.specs.declared.expr.LocalSide.TheVariants as side
use Rattle.rctl_parts.specs.Exprs as expr
use Rattle.rctl_parts.specs.Exprs.{Expr, Exprs}
use Rattle.rctl_parts.specs.Pieces as piece
use Rattle.rctl_parts.specs.Pieces.{Atom, Piece, Pieces}

-- what parts are made for: how many variables each process has, and the process that each watch is
-- on
pub record Scope : Type 0 where
  pub variables : List ℕ
  pub watch_process : List (Option ℕ)

-- a variable on the right is one of so many
abbrev pub SideFits : ℕ → LocalSide → Type 0
SideFits variables (side.Number value) = ⊤
SideFits variables (side.Variable v) = v < variables

abbrev mutual
  -- each variable is one of so many, and each watch is on the process
  pub ExprFits : ℕ → List (Option ℕ) → ℕ → Expr → Type 0
  ExprFits variables watch_process p (expr.truth value) = ⊤
  ExprFits variables watch_process p (expr.comparison left compare right) =
      (left < variables) × SideFits variables right
  ExprFits variables watch_process p (expr.watch number) =
      (number < length watch_process) × (get_or watch_process number None ≡ Some p)
  ExprFits variables watch_process p (expr.negation e) = ExprFits variables watch_process p e
  ExprFits variables watch_process p (expr.conjunction es) = ExprsFit variables watch_process p es
  ExprFits variables watch_process p (expr.disjunction es) = ExprsFit variables watch_process p es

  -- so of each member
  pub ExprsFit : ℕ → List (Option ℕ) → ℕ → Exprs → Type 0
  ExprsFit variables watch_process p expr.none = ⊤
  ExprsFit variables watch_process p (expr.more e es) =
      ExprFits variables watch_process p e × ExprsFit variables watch_process p es

abbrev mutual
  -- neither a variable nor a watch is named
  pub is_constant : Expr → Bool
  is_constant (expr.truth value) = true
  is_constant (expr.comparison left compare right) = false
  is_constant (expr.watch number) = false
  is_constant (expr.negation e) = is_constant e
  is_constant (expr.conjunction es) = are_constant es
  is_constant (expr.disjunction es) = are_constant es

  -- so of each member
  pub are_constant : Exprs → Bool
  are_constant expr.none = true
  are_constant (expr.more e es) = is_constant e && are_constant es

-- a local part names its process exactly where its expression isn't constant
abbrev pub LocalFits : Scope → Option ℕ → Expr → Type 0
LocalFits scope None e = is_constant e ≡ true
LocalFits scope (Some p) e =
    (is_constant e ≡ false) × (p < length scope.variables)
    × ExprFits (get_or scope.variables p 0) scope.watch_process p e

-- both ends of a channel are there, and its bound is of 64 bits, with room for the receipts
abbrev pub ChannelFits : Scope → ℕ → ℕ → ℕ → Type 0
ChannelFits scope p q k = (p < length scope.variables) × (q < length scope.variables) × (k ≤ 2 ^ 63)

-- a variable of a process is there
abbrev pub VariableFits : Scope → ℕ → ℕ → Type 0
VariableFits scope p x = (p < length scope.variables) × (x < get_or scope.variables p 0)

-- a difference is of variables of two processes, and its bound within 2^64
abbrev pub DifferenceFits : Scope → ℕ → ℕ → ℕ → ℕ → ℤ → Type 0
DifferenceFits scope p x q y k =
    VariableFits scope p x × VariableFits scope q y × (p ≡ q → ⊥) × (neg_ℤ (pos (2 ^ 64)) ≤ℤ k)
    × (k ≤ℤ pos (2 ^ 64))

-- an operator is analysed, and the process of a number is there
abbrev pub OperatorFits : Scope → Operator → Type 0
OperatorFits scope operator.Ef = ⊤
OperatorFits scope operator.Ag = ⊤
OperatorFits scope operator.Eg = ⊤
OperatorFits scope (operator.Ex p) = p < length scope.variables
OperatorFits scope operator.Af = ⊥
OperatorFits scope operator.Ax = ⊥

-- an atom is made for the scope
abbrev pub AtomFits : Scope → Atom → Type 0
AtomFits scope (piece.local process e) = LocalFits scope process e
AtomFits scope (piece.at_most p q k) = ChannelFits scope p q k
AtomFits scope (piece.at_least p q k) = ChannelFits scope p q k
AtomFits scope piece.never = ⊤
AtomFits scope (piece.diff_at_most p x q y k) = DifferenceFits scope p x q y k
AtomFits scope (piece.diff_at_least p x q y k) = DifferenceFits scope p x q y k

abbrev mutual
  -- a part is made for the scope: its numbers are there, and its operators are analysed
  pub PieceFits : Scope → Piece → Type 0
  PieceFits scope (piece.atom a) = AtomFits scope a
  PieceFits scope (piece.temporal operator ps) = OperatorFits scope operator × PiecesFit scope ps

  -- so of each part of an operand
  pub PiecesFit : Scope → Pieces → Type 0
  PiecesFit scope piece.none = ⊤
  PiecesFit scope (piece.more p ps) = PieceFits scope p × PiecesFit scope ps

-- the same of a list of parts, and of a list of disjuncts
abbrev pub EachFits : Scope → List Piece → Type 0
EachFits scope [] = ⊤
EachFits scope (p ∷ ps) = PieceFits scope p × EachFits scope ps

-- so of each disjunct
abbrev pub AllFit : Scope → List (List Piece) → Type 0
AllFit scope [] = ⊤
AllFit scope (d ∷ ds) = EachFits scope d × AllFit scope ds

abbrev mutual
  -- how many parts a part is, those of its operand counted
  pub part_count : Piece → ℕ
  part_count (piece.atom a) = 1
  part_count (piece.temporal operator ps) = 1 + operand_count ps

  -- those of an operand
  pub operand_count : Pieces → ℕ
  operand_count piece.none = 0
  operand_count (piece.more p ps) = part_count p + operand_count ps

-- how many parts a list of them is, and disjuncts are
abbrev pub parts_count : List Piece → ℕ
parts_count [] = 0
parts_count (p ∷ ps) = part_count p + parts_count ps

-- the same of all disjuncts
abbrev pub disjuncts_count : List (List Piece) → ℕ
disjuncts_count [] = 0
disjuncts_count (d ∷ ds) = parts_count d + disjuncts_count ds

abbrev mutual
  -- the expression names the watch
  pub names_watch : ℕ → Expr → Bool
  names_watch w (expr.truth value) = false
  names_watch w (expr.comparison left compare right) = false
  names_watch w (expr.watch number) = number == w
  names_watch w (expr.negation e) = names_watch w e
  names_watch w (expr.conjunction es) = some_names_watch w es
  names_watch w (expr.disjunction es) = some_names_watch w es

  -- some member does
  pub some_names_watch : ℕ → Exprs → Bool
  some_names_watch w expr.none = false
  some_names_watch w (expr.more e es) = names_watch w e || some_names_watch w es

-- the atom names the watch
abbrev pub atom_names_watch : ℕ → Atom → Bool
atom_names_watch w (piece.local process e) = names_watch w e
atom_names_watch w (piece.at_most p q k) = false
atom_names_watch w (piece.at_least p q k) = false
atom_names_watch w piece.never = false
atom_names_watch w (piece.diff_at_most p x q y k) = false
atom_names_watch w (piece.diff_at_least p x q y k) = false

abbrev mutual
  -- some local part of the part names the watch
  pub part_names_watch : ℕ → Piece → Bool
  part_names_watch w (piece.atom a) = atom_names_watch w a
  part_names_watch w (piece.temporal operator ps) = operand_names_watch w ps

  -- some part of the operand does
  pub operand_names_watch : ℕ → Pieces → Bool
  operand_names_watch w piece.none = false
  operand_names_watch w (piece.more p ps) = part_names_watch w p || operand_names_watch w ps

-- some part of the list does
abbrev pub parts_name_watch : ℕ → List Piece → Bool
parts_name_watch w [] = false
parts_name_watch w (p ∷ ps) = part_names_watch w p || parts_name_watch w ps

-- some part of some disjunct does
abbrev pub disjuncts_name_watch : ℕ → List (List Piece) → Bool
disjuncts_name_watch w [] = false
disjuncts_name_watch w (d ∷ ds) = parts_name_watch w d || disjuncts_name_watch w ds

-- the disjuncts are made for a header whose processes have so many variables each, and for watches
-- on these processes
pub record AreMadeFor (scope : Scope) (ds : List (List Piece)) : Type 0 where
  -- each number is there, each watch of a local part is on its process, each operator is analysed
  pub fit : AllFit scope ds
  pub some : 1 ≤ length ds
  pub few : length ds ≤ most_disjuncts
  pub parts : disjuncts_count ds ≤ most_parts
  -- a watch that no part names is on no process
  pub unnamed : (w : ℕ) → disjuncts_name_watch w ds ≡ false
      → get_or scope.watch_process w None ≡ None
