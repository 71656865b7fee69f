-- The plain data of a tree, an expression and a part, variant by variant.
use Rattle.std.specs.Prelude.{ℕ, ℤ, Bool, List, map, Option}
use Rattle.std.proofs.Common.{◌≡◌, sym, ◌∙◌, ap}
use Rattle.rctl_grammar.specs.declared.tree.Compare.{Compare}
use Rattle.rctl_grammar.specs.declared.tree.Operator.{Operator}
use Rattle.rctl_grammar.specs.declared.tree.Place.{Place}
use Rattle.rctl_grammar.specs.declared.tree.Atom.{Atom}
use Rattle.rctl_grammar.specs.declared.tree.Tree.{Tree}
use Rattle.rctl_grammar.specs.declared.tree.Tree.TheVariants as tree
use Rattle.rctl_grammar.specs.declared.tree.Tree.TheVariants.{rolls-Leaf, rolls-Temporal, rolls-Until}
use Rattle.rctl_grammar.specs.declared.tree.Tree.TheOpen.{Tree-F}
use Rattle.rctl_grammar.specs.declared.tree.Tree.TheFolds.{fold-roll-Tree}
use Rattle.rctl_class.specs.declared.named.NamedSide.{NamedSide}
use Rattle.rctl_class.specs.declared.named.NamedExpr.{NamedExpr}
use Rattle.rctl_class.specs.declared.named.NamedExpr.TheVariants as expr
use Rattle.rctl_class.specs.declared.named.NamedExpr.TheOpen.{NamedExpr-F}
use Rattle.rctl_class.specs.declared.named.NamedExpr.TheFolds.{fold-roll-NamedExpr}
use Rattle.rctl_class.specs.declared.named.NamedPart.{NamedPart}
use Rattle.rctl_class.specs.declared.named.NamedPart.TheVariants as part
use Rattle.rctl_class.specs.declared.named.NamedPart.TheOpen.{NamedPart-F}
use Rattle.rctl_class.specs.declared.named.NamedPart.TheFolds.{fold-roll-NamedPart}
use Rattle.rctl_class.specs.Nodes as node
use Rattle.rctl_class.specs.Nodes.{Node, nodes_of, node_step, node_of}
use Rattle.rctl_class.specs.NamedParts as named
use Rattle.rctl_class.specs.NamedParts.{Expr, exprs, expr_step, expr_of, NamedPiece, pieces, piece_step, piece_of, pieces_of}

pub node-Leaf : (a : Atom) (at : ℕ) → node_of (tree.Leaf a at) ≡ node.leaf a at
unfolding node_of
node-Leaf a at = ap node_of (sym (rolls-Leaf a at)) ∙ fold-roll-Tree Node node_step (Tree-F.Leaf a at)

pub node-Not : (t : Tree) (at : ℕ) → node_of (tree.Not t at) ≡ node.negation (node_of t) at
unfolding node_of
node-Not t at = ap node_of (sym (tree.rolls-Not t at)) ∙ fold-roll-Tree Node node_step (Tree-F.Not t at)

pub node-And : (ts : List Tree) (at : ℕ) → node_of (tree.And ts at) ≡ node.conjunction (nodes_of (map node_of ts)) at
unfolding node_of
node-And ts at = ap node_of (sym (tree.rolls-And ts at)) ∙ fold-roll-Tree Node node_step (Tree-F.And ts at)

pub node-Or : (ts : List Tree) (at : ℕ) → node_of (tree.Or ts at) ≡ node.disjunction (nodes_of (map node_of ts)) at
unfolding node_of
node-Or ts at = ap node_of (sym (tree.rolls-Or ts at)) ∙ fold-roll-Tree Node node_step (Tree-F.Or ts at)

pub node-Temporal : (operator : Operator) (t : Tree) (at : ℕ) → node_of (tree.Temporal operator t at) ≡ node.under operator (node_of t) at
unfolding node_of
node-Temporal operator t at = ap node_of (sym (rolls-Temporal operator t at)) ∙ fold-roll-Tree Node node_step (Tree-F.Temporal operator t at)

pub node-Next : (process : Place) (t : Tree) (at : ℕ) → node_of (tree.Next process t at) ≡ node.stepping process (node_of t) at
unfolding node_of
node-Next process t at = ap node_of (sym (tree.rolls-Next process t at)) ∙ fold-roll-Tree Node node_step (Tree-F.Next process t at)

pub node-Until : (all : Bool) (left right : Tree) (at : ℕ) → node_of (tree.Until all left right at) ≡ node.until_of all (node_of left) (node_of right) at
unfolding node_of
node-Until all left right at = ap node_of (sym (rolls-Until all left right at)) ∙ fold-roll-Tree Node node_step (Tree-F.Until all left right at)

-- ---- expressions

pub expr-Truth : (value : Bool) → expr_of (expr.Truth value) ≡ named.truth value
unfolding expr_of
expr-Truth value = ap expr_of (sym (expr.rolls-Truth value)) ∙ fold-roll-NamedExpr Expr expr_step (NamedExpr-F.Truth value)

pub expr-Compare : (left : Place) (compare : Compare) (right : NamedSide) → expr_of (expr.Compare left compare right) ≡ named.comparison left compare right
unfolding expr_of
expr-Compare left compare right =
    ap expr_of (sym (expr.rolls-Compare left compare right)) ∙ fold-roll-NamedExpr Expr expr_step (NamedExpr-F.Compare left compare right)

pub expr-Watch : (watch : Place) → expr_of (expr.Watch watch) ≡ named.watched watch
unfolding expr_of
expr-Watch watch = ap expr_of (sym (expr.rolls-Watch watch)) ∙ fold-roll-NamedExpr Expr expr_step (NamedExpr-F.Watch watch)

pub expr-Not : (e : NamedExpr) → expr_of (expr.Not e) ≡ named.negation (expr_of e)
unfolding expr_of
expr-Not e = ap expr_of (sym (expr.rolls-Not e)) ∙ fold-roll-NamedExpr Expr expr_step (NamedExpr-F.Not e)

pub expr-And : (es : List NamedExpr) → expr_of (expr.And es) ≡ named.conjunction (exprs (map expr_of es))
unfolding expr_of
expr-And es = ap expr_of (sym (expr.rolls-And es)) ∙ fold-roll-NamedExpr Expr expr_step (NamedExpr-F.And es)

pub expr-Or : (es : List NamedExpr) → expr_of (expr.Or es) ≡ named.disjunction (exprs (map expr_of es))
unfolding expr_of
expr-Or es = ap expr_of (sym (expr.rolls-Or es)) ∙ fold-roll-NamedExpr Expr expr_step (NamedExpr-F.Or es)

-- ---- parts

pub piece-Local : (on : Option Place) (e : NamedExpr) → piece_of (part.Local on e) ≡ named.local on (expr_of e)
unfolding piece_of
piece-Local on e = ap piece_of (sym (part.rolls-Local on e)) ∙ fold-roll-NamedPart NamedPiece piece_step (NamedPart-F.Local on e)

pub piece-AtMost : (sender receiver : Place) (k : ℕ) → piece_of (part.AtMost sender receiver k) ≡ named.at_most sender receiver k
unfolding piece_of
piece-AtMost sender receiver k =
    ap piece_of (sym (part.rolls-AtMost sender receiver k)) ∙ fold-roll-NamedPart NamedPiece piece_step (NamedPart-F.AtMost sender receiver k)

pub piece-AtLeast : (sender receiver : Place) (k : ℕ) → piece_of (part.AtLeast sender receiver k) ≡ named.at_least sender receiver k
unfolding piece_of
piece-AtLeast sender receiver k =
    ap piece_of (sym (part.rolls-AtLeast sender receiver k)) ∙ fold-roll-NamedPart NamedPiece piece_step (NamedPart-F.AtLeast sender receiver k)

pub piece-Never : (sender receiver : Place) → piece_of (part.Never sender receiver) ≡ named.never sender receiver
unfolding piece_of
piece-Never sender receiver =
    ap piece_of (sym (part.rolls-Never sender receiver)) ∙ fold-roll-NamedPart NamedPiece piece_step (NamedPart-F.Never sender receiver)

pub piece-Temporal : (operator : Operator) (ps : List NamedPart) → piece_of (part.Temporal operator ps) ≡ named.temporal operator (pieces (pieces_of ps))
unfolding piece_of
piece-Temporal operator ps =
    ap piece_of (sym (part.rolls-Temporal operator ps)) ∙ fold-roll-NamedPart NamedPiece piece_step (NamedPart-F.Temporal operator ps)

pub piece-DiffAtMost : (p x q y : Place) (k : ℤ) → piece_of (part.DiffAtMost p x q y k) ≡ named.diff_at_most p x q y k
unfolding piece_of
piece-DiffAtMost p x q y k = ap piece_of (sym (part.rolls-DiffAtMost p x q y k)) ∙ fold-roll-NamedPart NamedPiece piece_step (NamedPart-F.DiffAtMost p x q y k)

pub piece-DiffAtLeast : (p x q y : Place) (k : ℤ) → piece_of (part.DiffAtLeast p x q y k) ≡ named.diff_at_least p x q y k
unfolding piece_of
piece-DiffAtLeast p x q y k = ap piece_of (sym (part.rolls-DiffAtLeast p x q y k)) ∙ fold-roll-NamedPart NamedPiece piece_step (NamedPart-F.DiffAtLeast p x q y k)

pub piece-Next : (p : Place) (ps : List NamedPart) → piece_of (part.Next p ps) ≡ named.next p (pieces (pieces_of ps))
unfolding piece_of
piece-Next p ps = ap piece_of (sym (part.rolls-Next p ps)) ∙ fold-roll-NamedPart NamedPiece piece_step (NamedPart-F.Next p ps)
