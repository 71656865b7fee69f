-- Parts by names as plain data, the formulas that they spell, and the names that they use.
use Rattle.std.specs.Prelude.{◌≡◌, ℕ, ◌+◌, ◌^◌, ◌≤◌, Bool, true, false, ◌&&◌, List, [], ◌∷◌, ◌++◌}
use Rattle.std.specs.Prelude.{map, length, Option, None, Some, IsTrue, ⊤, ℤ, pos, neg_ℤ, ◌≤ℤ◌}
use Rattle.std.specs.Prelude.{bytes_eq}
use Rattle.run_model.specs.Run.{Name}
use Rattle.run_model.specs.Formula as model
use Rattle.run_model.specs.Class.{is_analysed}
use Rattle.pota_base.specs.Limits.{most_disjuncts, most_parts}
use Rattle.rctl_grammar.specs.declared.tree.Compare.{Compare}
use Rattle.rctl_grammar.specs.declared.tree.Operator.{Operator}
use Rattle.rctl_grammar.specs.declared.tree.Place.{Place}
use Rattle.rctl_grammar.specs.Shape.{relation_of, model_operator}
use Rattle.rctl_class.specs.Uses.{Use, process, variable, watch}
use Rattle.rctl_class.specs.declared.named.NamedSide.{NamedSide}
use Rattle.rctl_class.specs.declared.named.NamedSide.TheVariants as side
use Rattle.rctl_class.specs.declared.named.NamedExpr.{NamedExpr}
use Rattle.rctl_class.specs.declared.named.NamedExpr.TheOpen.{NamedExpr-F}
use Rattle.rctl_class.specs.declared.named.NamedExpr.TheFolds.{fold-NamedExpr}
use Rattle.rctl_class.specs.declared.named.NamedPart.{NamedPart}
use Rattle.rctl_class.specs.declared.named.NamedPart.TheOpen.{NamedPart-F}
use Rattle.rctl_class.specs.declared.named.NamedPart.TheFolds.{fold-NamedPart}

-- ---- plain data

mutual
  -- a local expression by names
  pub data Expr : Type 0 where
    truth : (value : Bool) → Expr
    comparison : (left : Place) (compare : Compare) (right : NamedSide) → Expr
    watched : (name : Place) → Expr
    negation : (e : Expr) → Expr
    conjunction : (es : Exprs) → Expr
    disjunction : (es : Exprs) → Expr

  -- any number of them
  pub data Exprs : Type 0 where
    no_expr : Exprs
    and_expr : (e : Expr) (es : Exprs) → Exprs

-- a list of expressions, as the members of one
abbrev pub exprs : List Expr → Exprs
exprs [] = no_expr
exprs (e ∷ es) = and_expr e (exprs es)

-- one layer of an expression, with its members already seen
abbrev pub expr_step : NamedExpr-F Expr → Expr
expr_step (NamedExpr-F.Truth value) = truth value
expr_step (NamedExpr-F.Compare left compare right) = comparison left compare right
expr_step (NamedExpr-F.Watch name) = watched name
expr_step (NamedExpr-F.Not e) = negation e
expr_step (NamedExpr-F.And es) = conjunction (exprs es)
expr_step (NamedExpr-F.Or es) = disjunction (exprs es)

-- the expression that the code's value is
unfoldable pub expr_of : NamedExpr → Expr
expr_of = fold-NamedExpr Expr expr_step

mutual
  -- a part by names
  pub data NamedPiece : Type 0 where
    local : (on : Option Place) (e : Expr) → NamedPiece
    at_most : (sender receiver : Place) (k : ℕ) → NamedPiece
    at_least : (sender receiver : Place) (k : ℕ) → NamedPiece
    never : (sender receiver : Place) → NamedPiece
    diff_at_most : (left_process left right_process right : Place) (k : ℤ) → NamedPiece
    diff_at_least : (left_process left right_process right : Place) (k : ℤ) → NamedPiece
    temporal : (operator : Operator) (ps : Pieces) → NamedPiece
    next : (behind : Place) (ps : Pieces) → NamedPiece

  -- a conjunction of parts
  pub data Pieces : Type 0 where
    no_piece : Pieces
    and_piece : (p : NamedPiece) (ps : Pieces) → Pieces

-- a list of parts, as an operand
abbrev pub pieces : List NamedPiece → Pieces
pieces [] = no_piece
pieces (p ∷ ps) = and_piece p (pieces ps)

-- one layer of a part, with its operands already seen
abbrev pub piece_step : NamedPart-F NamedPiece → NamedPiece
piece_step (NamedPart-F.Local on expr) = local on (expr_of expr)
piece_step (NamedPart-F.AtMost sender receiver k) = at_most sender receiver k
piece_step (NamedPart-F.AtLeast sender receiver k) = at_least sender receiver k
piece_step (NamedPart-F.Never sender receiver) = never sender receiver
piece_step (NamedPart-F.DiffAtMost left_process left right_process right k) =
    diff_at_most left_process left right_process right k
piece_step (NamedPart-F.DiffAtLeast left_process left right_process right k) =
    diff_at_least left_process left right_process right k
piece_step (NamedPart-F.Temporal operator ps) = temporal operator (pieces ps)
piece_step (NamedPart-F.Next p ps) = next p (pieces ps)

-- the part that the code's value is
unfoldable pub piece_of : NamedPart → NamedPiece
piece_of = fold-NamedPart NamedPiece piece_step

-- the parts of a list of them
abbrev pub pieces_of : List NamedPart → List NamedPiece
pieces_of parts = map piece_of parts

-- the disjuncts, each by its parts
abbrev pub disjuncts_of : List (List NamedPart) → List (List NamedPiece)
disjuncts_of disjuncts = map pieces_of disjuncts

-- ---- formulas

-- the right side of a comparison over a process
abbrev pub side_formula : Name → NamedSide → model.Side
side_formula p (side.Number value) = model.Number value
side_formula p (side.Variable v) = model.Variable p v.name

abbrev mutual
  -- the formula of an expression over a process
  pub expr_formula : Name → Expr → model.Formula
  expr_formula p (truth value) = model.Truth value
  expr_formula p (comparison left compare right) =
      model.Comparison p left.name (relation_of compare) (side_formula p right)
  expr_formula p (watched name) = model.Watched p name.name
  expr_formula p (negation e) = model.Not (expr_formula p e)
  expr_formula p (conjunction es) = model.And (expr_formulas p es)
  expr_formula p (disjunction es) = model.Or (expr_formulas p es)

  -- those of its members
  pub expr_formulas : Name → Exprs → model.Formulas
  expr_formulas p no_expr = model.Nil
  expr_formulas p (and_expr e es) = model.Cons (expr_formula p e) (expr_formulas p es)

-- the name of a place, and no bytes where there is none
abbrev pub name_on : Option Place → Name
name_on None = []
name_on (Some p) = p.name

abbrev mutual
  -- the formula of a part
  pub part_formula : NamedPiece → model.Formula
  part_formula (local on e) = expr_formula (name_on on) e
  part_formula (at_most p q k) = model.InTransit p.name q.name model.LessOrEqual k
  part_formula (at_least p q k) = model.InTransit p.name q.name model.GreaterOrEqual k
  part_formula (never p q) = model.Truth false
  part_formula (diff_at_most p x q y k) =
      model.Difference p.name x.name q.name y.name model.LessOrEqual k
  part_formula (diff_at_least p x q y k) =
      model.Difference p.name x.name q.name y.name model.GreaterOrEqual k
  part_formula (next p ps) = model.Next p.name (model.And (part_formulas ps))
  part_formula (temporal operator ps) =
      model.Temporal (model_operator operator) (model.And (part_formulas ps))

  -- those of the parts of an operand
  pub part_formulas : Pieces → model.Formulas
  part_formulas no_piece = model.Nil
  part_formulas (and_piece p ps) = model.Cons (part_formula p) (part_formulas ps)

-- ---- names

-- the variable on the right of a comparison
abbrev pub side_uses : Name → NamedSide → List Use
side_uses p (side.Number value) = []
side_uses p (side.Variable v) = variable p v ∷ []

abbrev mutual
  -- the variables and watches of an expression over a process
  pub expr_uses : Name → Expr → List Use
  expr_uses p (truth value) = []
  expr_uses p (comparison left compare right) = variable p left ∷ side_uses p right
  expr_uses p (watched name) = watch p name ∷ []
  expr_uses p (negation e) = expr_uses p e
  expr_uses p (conjunction es) = all_expr_uses p es
  expr_uses p (disjunction es) = all_expr_uses p es

  -- those of its members
  pub all_expr_uses : Name → Exprs → List Use
  all_expr_uses p no_expr = []
  all_expr_uses p (and_expr e es) = expr_uses p e ++ all_expr_uses p es

-- the name of a process, where there is one
abbrev pub process_use : Option Place → List Use
process_use None = []
process_use (Some p) = process p ∷ []

abbrev mutual
  -- the names of a part: a local one names its process once
  pub part_uses : NamedPiece → List Use
  part_uses (local on e) = process_use on ++ expr_uses (name_on on) e
  part_uses (at_most p q k) = process p ∷ process q ∷ []
  part_uses (at_least p q k) = process p ∷ process q ∷ []
  part_uses (never p q) = process p ∷ process q ∷ []
  part_uses (diff_at_most p x q y k) =
      process p ∷ variable p.name x ∷ process q ∷ variable q.name y ∷ []
  part_uses (diff_at_least p x q y k) =
      process p ∷ variable p.name x ∷ process q ∷ variable q.name y ∷ []
  part_uses (temporal operator ps) = operand_uses ps
  part_uses (next p ps) = process p ∷ operand_uses ps

  -- those of the parts of an operand
  pub operand_uses : Pieces → List Use
  operand_uses no_piece = []
  operand_uses (and_piece p ps) = part_uses p ++ operand_uses ps

-- the names of a conjunction of parts, and of disjuncts
abbrev pub parts_uses : List NamedPiece → List Use
parts_uses [] = []
parts_uses (p ∷ ps) = part_uses p ++ parts_uses ps

-- the names of disjuncts
abbrev pub disjuncts_uses : List (List NamedPiece) → List Use
disjuncts_uses [] = []
disjuncts_uses (d ∷ ds) = parts_uses d ++ disjuncts_uses ds

-- ---- which parts a formula that was read can have

abbrev mutual
  -- neither a variable nor a watch is named
  pub is_constant : Expr → Bool
  is_constant (truth value) = true
  is_constant (comparison left compare right) = false
  is_constant (watched name) = false
  is_constant (negation e) = is_constant e
  is_constant (conjunction es) = are_constant es
  is_constant (disjunction es) = are_constant es

  -- so of each member
  pub are_constant : Exprs → Bool
  are_constant no_expr = true
  are_constant (and_expr e es) = is_constant e && are_constant es

-- an expression has a process exactly where it isn't constant
abbrev pub has_no_place : Option Place → Bool
has_no_place None = true
has_no_place (Some p) = false

-- a difference is of two processes, and its bound within 2^64
abbrev pub DifferenceFits : Place → Place → ℤ → Type 0
DifferenceFits p q k =
    (bytes_eq p.name q.name ≡ false) × (neg_ℤ (pos (2 ^ 64)) ≤ℤ k) × (k ≤ℤ pos (2 ^ 64))

abbrev mutual
  -- an expression has a process exactly where it isn't constant, bounds are at most 2^63, those of
  -- differences within 2^64, operators are analysed
  pub PartFits : NamedPiece → Type 0
  PartFits (local on e) = is_constant e ≡ has_no_place on
  PartFits (at_most p q k) = k ≤ 2 ^ 63
  PartFits (at_least p q k) = k ≤ 2 ^ 63
  PartFits (never p q) = ⊤
  PartFits (diff_at_most p x q y k) = DifferenceFits p q k
  PartFits (diff_at_least p x q y k) = DifferenceFits p q k
  PartFits (next p ps) = OperandFits ps
  PartFits (temporal operator ps) = IsTrue (is_analysed (model_operator operator)) × OperandFits ps

  -- so of each part of an operand
  pub OperandFits : Pieces → Type 0
  OperandFits no_piece = ⊤
  OperandFits (and_piece p ps) = PartFits p × OperandFits ps

-- so of each part of a conjunction, and of each disjunct
abbrev pub EachFits : List NamedPiece → Type 0
EachFits [] = ⊤
EachFits (p ∷ ps) = PartFits p × EachFits ps

-- so of each disjunct
abbrev pub AllFit : List (List NamedPiece) → Type 0
AllFit [] = ⊤
AllFit (d ∷ ds) = EachFits d × AllFit ds

abbrev mutual
  -- how many parts a part is, those of its operand counted
  pub part_count : NamedPiece → ℕ
  part_count (local on e) = 1
  part_count (at_most p q k) = 1
  part_count (at_least p q k) = 1
  part_count (never p q) = 1
  part_count (diff_at_most p x q y k) = 1
  part_count (diff_at_least p x q y k) = 1
  part_count (temporal operator ps) = 1 + operand_count ps
  part_count (next p ps) = 1 + operand_count ps

  -- those of an operand
  pub operand_count : Pieces → ℕ
  operand_count no_piece = 0
  operand_count (and_piece p ps) = part_count p + operand_count ps

-- the parts of a conjunction, inner ones counted
abbrev pub parts_count : List NamedPiece → ℕ
parts_count [] = 0
parts_count (p ∷ ps) = part_count p + parts_count ps

-- those of all disjuncts
abbrev pub disjuncts_count : List (List NamedPiece) → ℕ
disjuncts_count [] = 0
disjuncts_count (d ∷ ds) = parts_count d + disjuncts_count ds

-- the disjuncts are such as a formula that was read can have: 1 to 64, of at most 128 parts, inner
-- ones counted
pub record AreDisjuncts (ds : List (List NamedPiece)) : Type 0 where
  pub fit : AllFit ds
  pub some : 1 ≤ length ds
  pub few : length ds ≤ most_disjuncts
  pub parts : disjuncts_count ds ≤ most_parts
