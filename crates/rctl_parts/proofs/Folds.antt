-- The plain data of an expression and of a part, variant by variant.
use Rattle.std.specs.Prelude.{ℕ, ℤ, Bool, List, map, Option}
use Rattle.std.proofs.Common.{◌≡◌, sym, ◌∙◌, ap}
use Rattle.rctl_grammar.specs.declared.tree.Compare.{Compare}
use Rattle.rctl_grammar.specs.declared.tree.Operator.{Operator}
use Rattle.rctl_parts.specs.declared.expr.LocalSide.{LocalSide}
use Rattle.rctl_parts.specs.declared.expr.LocalExpr.{LocalExpr}
use Rattle.rctl_parts.specs.declared.expr.LocalExpr.TheVariants as local_expr
use Rattle.rctl_parts.specs.declared.expr.LocalExpr.TheVariants.{rolls-Truth, rolls-Compare, rolls-Watch, rolls-Not, rolls-And, rolls-Or}
use Rattle.rctl_parts.specs.declared.expr.LocalExpr.TheOpen.{LocalExpr-F}
use Rattle.rctl_parts.specs.declared.expr.LocalExpr.TheFolds.{fold-roll-LocalExpr}
use Rattle.rctl_parts.specs.declared.part.Part.{Part}
use Rattle.rctl_parts.specs.declared.part.Part.TheVariants as part
use Rattle.rctl_parts.specs.declared.part.Part.TheVariants.{rolls-Local, rolls-AtMost, rolls-AtLeast, rolls-Never, rolls-DiffAtMost, rolls-DiffAtLeast, rolls-Temporal}
use Rattle.rctl_parts.specs.declared.part.Part.TheOpen.{Part-F}
use Rattle.rctl_parts.specs.declared.part.Part.TheFolds.{fold-roll-Part}
use Rattle.rctl_parts.specs.Exprs.{Expr, truth, comparison, watch, negation, conjunction, disjunction, exprs, expr_step, expr_of}
use Rattle.rctl_parts.specs.Pieces.{Piece, local, at_most, at_least, never, diff_at_most, diff_at_least, atom, temporal, pieces, piece_step, piece_of, pieces_of}

pub expr-Truth : (value : Bool) → expr_of (local_expr.Truth value) ≡ truth value
unfolding expr_of
expr-Truth value = ap expr_of (sym (rolls-Truth value)) ∙ fold-roll-LocalExpr Expr expr_step (LocalExpr-F.Truth value)

pub expr-Compare : (left : ℕ) (compare : Compare) (side : LocalSide) → expr_of (local_expr.Compare left compare side) ≡ comparison left compare side
unfolding expr_of
expr-Compare left compare side =
    ap expr_of (sym (rolls-Compare left compare side)) ∙ fold-roll-LocalExpr Expr expr_step (LocalExpr-F.Compare left compare side)

pub expr-Watch : (number : ℕ) → expr_of (local_expr.Watch number) ≡ watch number
unfolding expr_of
expr-Watch number = ap expr_of (sym (rolls-Watch number)) ∙ fold-roll-LocalExpr Expr expr_step (LocalExpr-F.Watch number)

pub expr-Not : (e : LocalExpr) → expr_of (local_expr.Not e) ≡ negation (expr_of e)
unfolding expr_of
expr-Not e = ap expr_of (sym (rolls-Not e)) ∙ fold-roll-LocalExpr Expr expr_step (LocalExpr-F.Not e)

pub expr-And : (es : List LocalExpr) → expr_of (local_expr.And es) ≡ conjunction (exprs (map expr_of es))
unfolding expr_of
expr-And es = ap expr_of (sym (rolls-And es)) ∙ fold-roll-LocalExpr Expr expr_step (LocalExpr-F.And es)

pub expr-Or : (es : List LocalExpr) → expr_of (local_expr.Or es) ≡ disjunction (exprs (map expr_of es))
unfolding expr_of
expr-Or es = ap expr_of (sym (rolls-Or es)) ∙ fold-roll-LocalExpr Expr expr_step (LocalExpr-F.Or es)

pub piece-Local : (process : Option ℕ) (e : LocalExpr) → piece_of (part.Local process e) ≡ atom (local process (expr_of e))
unfolding piece_of
piece-Local process e = ap piece_of (sym (rolls-Local process e)) ∙ fold-roll-Part Piece piece_step (Part-F.Local process e)

pub piece-AtMost : (sender receiver k : ℕ) → piece_of (part.AtMost sender receiver k) ≡ atom (at_most sender receiver k)
unfolding piece_of
piece-AtMost sender receiver k =
    ap piece_of (sym (rolls-AtMost sender receiver k)) ∙ fold-roll-Part Piece piece_step (Part-F.AtMost sender receiver k)

pub piece-AtLeast : (sender receiver k : ℕ) → piece_of (part.AtLeast sender receiver k) ≡ atom (at_least sender receiver k)
unfolding piece_of
piece-AtLeast sender receiver k =
    ap piece_of (sym (rolls-AtLeast sender receiver k)) ∙ fold-roll-Part Piece piece_step (Part-F.AtLeast sender receiver k)

pub piece-Never : piece_of part.Never ≡ atom never
unfolding piece_of
piece-Never = ap piece_of (sym rolls-Never) ∙ fold-roll-Part Piece piece_step Part-F.Never

pub piece-DiffAtMost : (p x q y : ℕ) (k : ℤ) → piece_of (part.DiffAtMost p x q y k) ≡ atom (diff_at_most p x q y k)
unfolding piece_of
piece-DiffAtMost p x q y k =
    ap piece_of (sym (rolls-DiffAtMost p x q y k)) ∙ fold-roll-Part Piece piece_step (Part-F.DiffAtMost p x q y k)

pub piece-DiffAtLeast : (p x q y : ℕ) (k : ℤ) → piece_of (part.DiffAtLeast p x q y k) ≡ atom (diff_at_least p x q y k)
unfolding piece_of
piece-DiffAtLeast p x q y k =
    ap piece_of (sym (rolls-DiffAtLeast p x q y k)) ∙ fold-roll-Part Piece piece_step (Part-F.DiffAtLeast p x q y k)

pub piece-Temporal : (operator : Operator) (ps : List Part) → piece_of (part.Temporal operator ps) ≡ temporal operator (pieces (pieces_of ps))
unfolding piece_of
piece-Temporal operator ps = ap piece_of (sym (rolls-Temporal operator ps)) ∙ fold-roll-Part Piece piece_step (Part-F.Temporal operator ps)
