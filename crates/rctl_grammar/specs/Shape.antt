-- Formulas without their places in the text. A conjunction and a disjunction have at least two
-- members.
use Rattle.std.specs.Prelude.{ℕ, ℤ, Bool, true, false, List, [], ◌∷◌}
use Rattle.run_model.specs.Run.{Name}
use Rattle.run_model.specs.Formula as model
use Rattle.rctl_grammar.specs.declared.tree.Compare.{Compare}
use Rattle.rctl_grammar.specs.declared.tree.Compare.TheVariants as compare
use Rattle.rctl_grammar.specs.declared.tree.Operator.{Operator}
use Rattle.rctl_grammar.specs.declared.tree.Operator.TheVariants as operator
use Rattle.rctl_grammar.specs.declared.tree.Side.{Side}
use Rattle.rctl_grammar.specs.declared.tree.Side.TheVariants as side
use Rattle.rctl_grammar.specs.declared.tree.Atom.{Atom}
use Rattle.rctl_grammar.specs.declared.tree.Atom.TheVariants as atom
use Rattle.rctl_grammar.specs.declared.tree.Tree.{Tree}
use Rattle.rctl_grammar.specs.declared.tree.Tree.TheOpen.{Tree-F}
use Rattle.rctl_grammar.specs.declared.tree.Tree.TheFolds.{fold-Tree}
use Rattle.rctl_grammar.specs.Grammar.{Disjunction, one_conjunction, or, Conjunction, one_unary}
use Rattle.rctl_grammar.specs.Grammar.{and, Unary, leaf, negation, temporal, stepping, group, until}
use Rattle.rctl_grammar.specs.Grammar.{atom_of}

-- the right side of a comparison
pub data PlainSide : Type 0 where
  number : (value : ℤ) → PlainSide
  variable : (process variable : Name) → PlainSide

pub data PlainAtom : Type 0 where
  truth : (value : Bool) → PlainAtom
  comparison : (process variable : Name) (compare : Compare) (right : PlainSide) → PlainAtom
  watch : (process name : Name) → PlainAtom
  transit : (sender receiver : Name) (compare : Compare) (k : ℕ) → PlainAtom
  emptiness : (sender receiver : Name) → PlainAtom
  difference : (left_process left right_process right : Name) (compare : Compare) (k : ℤ)
      → PlainAtom

mutual
  pub data Shape : Type 0 where
    plain : (a : PlainAtom) → Shape
    not : (s : Shape) → Shape
    conjunction : (front : Shapes) (last : Shape) → Shape
    disjunction : (front : Shapes) (last : Shape) → Shape
    under : (operator : model.Operator) (s : Shape) → Shape
    stepped : (process : Name) (s : Shape) → Shape
    until_of : (all : Bool) (left right : Shape) → Shape

  -- one or more
  pub data Shapes : Type 0 where
    one : (s : Shape) → Shapes
    more : (front : Shapes) (s : Shape) → Shapes

-- ---- of a tree

abbrev pub plain_side : Side → PlainSide
plain_side (side.Number value) = number value
plain_side (side.Variable process name) = variable process.name name.name

abbrev pub plain_atom : Atom → PlainAtom
plain_atom (atom.Truth value) = truth value
plain_atom (atom.Local process name compare right) =
    comparison process.name name.name compare (plain_side right)
plain_atom (atom.Watch process name) = watch process.name name.name
plain_atom (atom.InTransit sender receiver compare k) = transit sender.name receiver.name compare k
plain_atom (atom.Empty sender receiver) = emptiness sender.name receiver.name
plain_atom (atom.Difference left_process left right_process right compare k) =
    difference left_process.name left.name right_process.name right.name compare k

-- members behind `front` and `s`
abbrev pub conjunction_on : Shapes → Shape → List Shape → Shape
conjunction_on front s [] = conjunction front s
conjunction_on front s (next ∷ rest) = conjunction_on (more front s) next rest

abbrev pub disjunction_on : Shapes → Shape → List Shape → Shape
disjunction_on front s [] = disjunction front s
disjunction_on front s (next ∷ rest) = disjunction_on (more front s) next rest

-- the members of an And: one alone is itself, and none is true. No formula that was read has so few
abbrev pub conjunction_of : List Shape → Shape
conjunction_of [] = plain (truth true)
conjunction_of (s ∷ []) = s
conjunction_of (s ∷ next ∷ rest) = conjunction_on (one s) next rest

-- the members of an Or: one alone is itself, and none is false
abbrev pub disjunction_of : List Shape → Shape
disjunction_of [] = plain (truth false)
disjunction_of (s ∷ []) = s
disjunction_of (s ∷ next ∷ rest) = disjunction_on (one s) next rest

-- an operator over its operand. No tree has the operator of a process's number
abbrev pub under_of : Operator → Shape → Shape
under_of operator.Ef s = under model.Ef s
under_of operator.Ag s = under model.Ag s
under_of operator.Eg s = under model.Eg s
under_of (operator.Ex process) s = stepped [] s
under_of operator.Af s = under model.Af s
under_of operator.Ax s = under model.Ax s

-- one layer of a tree, with the shapes of its operands in their places
abbrev pub shape_step : Tree-F Shape → Shape
shape_step (Tree-F.Leaf a at) = plain (plain_atom a)
shape_step (Tree-F.Not s at) = not s
shape_step (Tree-F.And members at) = conjunction_of members
shape_step (Tree-F.Or members at) = disjunction_of members
shape_step (Tree-F.Temporal operator s at) = under_of operator s
shape_step (Tree-F.Next process s at) = stepped process.name s
shape_step (Tree-F.Until all left right at) = until_of all left right

-- the tree without its places
unfoldable pub shape_of : Tree → Shape
shape_of = fold-Tree Shape shape_step

-- ---- of a derivation

abbrev mutual
  pub shape_disjunction : Disjunction → Shape
  shape_disjunction (one_conjunction c) = shape_conjunction c
  shape_disjunction (or d at c) = disjunction (disjunct_shapes d) (shape_conjunction c)

  pub disjunct_shapes : Disjunction → Shapes
  disjunct_shapes (one_conjunction c) = one (shape_conjunction c)
  disjunct_shapes (or d at c) = more (disjunct_shapes d) (shape_conjunction c)

  pub shape_conjunction : Conjunction → Shape
  shape_conjunction (one_unary u) = shape_unary u
  shape_conjunction (and c at u) = conjunction (conjunct_shapes c) (shape_unary u)

  pub conjunct_shapes : Conjunction → Shapes
  conjunct_shapes (one_unary u) = one (shape_unary u)
  conjunct_shapes (and c at u) = more (conjunct_shapes c) (shape_unary u)

  pub shape_unary : Unary → Shape
  shape_unary (leaf l) = plain (plain_atom (atom_of l))
  shape_unary (negation at u) = not (shape_unary u)
  shape_unary (temporal operator name at u) = under operator (shape_unary u)
  shape_unary (stepping name at process u) = stepped process.name (shape_unary u)
  shape_unary (group opened d closed) = shape_disjunction d
  shape_unary (until path left name at right closed) =
      until_of path.all (shape_disjunction left) (shape_disjunction right)

-- ---- what a formula means

abbrev pub relation_of : Compare → model.Relation
relation_of compare.Eq = model.Equal
relation_of compare.Ne = model.Unequal
relation_of compare.Lt = model.Less
relation_of compare.Le = model.LessOrEqual
relation_of compare.Gt = model.Greater
relation_of compare.Ge = model.GreaterOrEqual

-- no tree has the operator of a process's number, and it is none that is analysed
abbrev pub model_operator : Operator → model.Operator
model_operator operator.Ef = model.Ef
model_operator operator.Ag = model.Ag
model_operator operator.Eg = model.Eg
model_operator (operator.Ex process) = model.Ax
model_operator operator.Af = model.Af
model_operator operator.Ax = model.Ax

abbrev pub model_side : PlainSide → model.Side
model_side (number value) = model.Number value
model_side (variable process name) = model.Variable process name

abbrev pub model_atom : PlainAtom → model.Formula
model_atom (truth value) = model.Truth value
model_atom (comparison process name compare right) =
    model.Comparison process name (relation_of compare) (model_side right)
model_atom (watch process name) = model.Watched process name
model_atom (transit sender receiver compare k) =
    model.InTransit sender receiver (relation_of compare) k
model_atom (emptiness sender receiver) = model.Empty sender receiver
model_atom (difference left_process left right_process right compare k) =
    model.Difference left_process left right_process right (relation_of compare) k

abbrev mutual
  -- the formula over the consistent cuts of a run that a shape spells
  pub model_of : Shape → model.Formula
  model_of (plain a) = model_atom a
  model_of (not s) = model.Not (model_of s)
  model_of (conjunction front last) =
      model.And (models front (model.Cons (model_of last) model.Nil))
  model_of (disjunction front last) = model.Or (models front (model.Cons (model_of last) model.Nil))
  model_of (under operator s) = model.Temporal operator (model_of s)
  model_of (stepped process s) = model.Next process (model_of s)
  model_of (until_of all left right) = model.Until all (model_of left) (model_of right)

  -- those of the members, and then the rest
  pub models : Shapes → model.Formulas → model.Formulas
  models (one s) rest = model.Cons (model_of s) rest
  models (more front s) rest = models front (model.Cons (model_of s) rest)

-- what a tree means
abbrev pub meaning : Tree → model.Formula
meaning t = model_of (shape_of t)
