-- The formulas of expressions and parts, variant by variant.
use Rattle.std.proofs.Common.{◌≡◌, ℕ, ℤ, Bool, List, [], ◌∷◌, ◌++◌, map, Option, codes, refl, ap, ◌∙◌, append_assoc}
use Rattle.rctl_grammar.specs.declared.tree.Compare.{Compare}
use Rattle.rctl_grammar.specs.declared.tree.Compare.TheVariants.{Lt, Le, Ge}
use Rattle.rctl_grammar.specs.declared.tree.Operator.{Operator}
use Rattle.rctl_grammar.specs.declared.tree.Place.{Place}
use Rattle.rctl_grammar.specs.Shape.{Shape, truth, comparison, watch, transit, difference, plain, not, under_of, stepped, conjunction_of, disjunction_of}
use Rattle.rctl_print.specs.Canonical.{canonical}
use Rattle.rctl_class.specs.declared.named.NamedSide.{NamedSide}
use Rattle.rctl_class.specs.declared.named.NamedExpr.{NamedExpr}
use Rattle.rctl_class.specs.declared.named.NamedExpr.TheVariants as expr
use Rattle.rctl_class.specs.declared.named.NamedPart.{NamedPart}
use Rattle.rctl_class.specs.declared.named.NamedPart.TheVariants as part
use Rattle.rctl_class.specs.NamedParts.{expr_of, exprs, pieces, pieces_of, name_on}
use Rattle.rctl_class.proofs.Folds.{expr-Truth, expr-Compare, expr-Watch, expr-Not, expr-And, expr-Or, piece-Local, piece-AtMost, piece-AtLeast, piece-Never, piece-DiffAtMost, piece-DiffAtLeast, piece-Temporal, piece-Next}
use Rattle.part_text.specs.Texts.{side_shape, expr_shape, expr_shapes, piece_shape, piece_shapes}
use Rattle.part_text.specs.inside.Members.{shape_over, shape_of_part}

members_over : (p : List ℕ) (es : List NamedExpr) → expr_shapes p (exprs (map expr_of es)) ≡ map (shape_over p) es
members_over p [] = refl
members_over p (e ∷ es) = ap (λ x. shape_over p e ∷ x) (members_over p es)

pub over-Truth : (p : List ℕ) (value : Bool) → shape_over p (expr.Truth value) ≡ plain (truth value)
over-Truth p value = ap (expr_shape p) (expr-Truth value)

pub over-Compare : (p : List ℕ) (left : Place) (compare : Compare) (right : NamedSide) → shape_over p (expr.Compare left compare right) ≡ plain (comparison p left.name compare (side_shape p right))
over-Compare p left compare right = ap (expr_shape p) (expr-Compare left compare right)

pub over-Watch : (p : List ℕ) (name : Place) → shape_over p (expr.Watch name) ≡ plain (watch p name.name)
over-Watch p name = ap (expr_shape p) (expr-Watch name)

pub put_watch : (old p : List ℕ) {name new : List ℕ} {s : Shape} → s ≡ plain (watch p name) → new ≡ old ++ p ++ codes "@" ++ name → new ≡ old ++ canonical s
put_watch old p e n = n ∙ rw e (simp append_assoc)

pub over-Not : (p : List ℕ) (e : NamedExpr) → shape_over p (expr.Not e) ≡ not (shape_over p e)
over-Not p e = ap (expr_shape p) (expr-Not e)

pub over-And : (p : List ℕ) (es : List NamedExpr) → shape_over p (expr.And es) ≡ conjunction_of (map (shape_over p) es)
over-And p es = ap (expr_shape p) (expr-And es) ∙ ap conjunction_of (members_over p es)

pub over-Or : (p : List ℕ) (es : List NamedExpr) → shape_over p (expr.Or es) ≡ disjunction_of (map (shape_over p) es)
over-Or p es = ap (expr_shape p) (expr-Or es) ∙ ap disjunction_of (members_over p es)

-- the formulas of expressions
pub ruleset expressions = (over-Truth, over-Compare, over-Watch, over-Not, over-And, over-Or)

operand : (ps : List NamedPart) → piece_shapes (pieces (pieces_of ps)) ≡ map shape_of_part ps
operand [] = refl
operand (p ∷ ps) = ap (λ x. shape_of_part p ∷ x) (operand ps)

pub part-Local : (on : Option Place) (e : NamedExpr) → shape_of_part (part.Local on e) ≡ shape_over (name_on on) e
part-Local on e = ap piece_shape (piece-Local on e)

pub part-AtMost : (p q : Place) (k : ℕ) → shape_of_part (part.AtMost p q k) ≡ plain (transit p.name q.name Le k)
part-AtMost p q k = ap piece_shape (piece-AtMost p q k)

pub part-AtLeast : (p q : Place) (k : ℕ) → shape_of_part (part.AtLeast p q k) ≡ plain (transit p.name q.name Ge k)
part-AtLeast p q k = ap piece_shape (piece-AtLeast p q k)

pub part-Never : (p q : Place) → shape_of_part (part.Never p q) ≡ plain (transit p.name q.name Lt 0)
part-Never p q = ap piece_shape (piece-Never p q)

pub part-DiffAtMost : (p x q y : Place) (k : ℤ) → shape_of_part (part.DiffAtMost p x q y k) ≡ plain (difference p.name x.name q.name y.name Le k)
part-DiffAtMost p x q y k = ap piece_shape (piece-DiffAtMost p x q y k)

pub part-DiffAtLeast : (p x q y : Place) (k : ℤ) → shape_of_part (part.DiffAtLeast p x q y k) ≡ plain (difference p.name x.name q.name y.name Ge k)
part-DiffAtLeast p x q y k = ap piece_shape (piece-DiffAtLeast p x q y k)

pub part-Temporal : (operator : Operator) (ps : List NamedPart) → shape_of_part (part.Temporal operator ps) ≡ under_of operator (conjunction_of (map shape_of_part ps))
part-Temporal operator ps = ap piece_shape (piece-Temporal operator ps) ∙ ap (λ x. under_of operator (conjunction_of x)) (operand ps)

pub part-Next : (p : Place) (ps : List NamedPart) → shape_of_part (part.Next p ps) ≡ stepped p.name (conjunction_of (map shape_of_part ps))
part-Next p ps = ap piece_shape (piece-Next p ps) ∙ ap (λ x. stepped p.name (conjunction_of x)) (operand ps)

-- the formulas of parts
pub ruleset parts = (part-Local, part-AtMost, part-AtLeast, part-Never, part-DiffAtMost, part-DiffAtLeast, part-Temporal, part-Next)
