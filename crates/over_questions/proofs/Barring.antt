-- What is barred first, one more at a time, and what has no counter.
use Rattle.std.proofs.Common.{◌≡◌, ℕ, ◌+◌, ◌<◌, List, [], ◌∷◌, ◌++◌, length, take, get_or, map, Option, None, Some, sym, ap, refl, ◌∙◌, add-one}
use Rattle.std.proofs.Math.Seq.{take-suc}
use Rattle.std.proofs.lemmas.List.{map-append}
use Rattle.rctl_class.specs.declared.named.NamedPart.{NamedPart}
use Rattle.rctl_class.specs.declared.named.NamedExpr.{NamedExpr}
use Rattle.rctl_class.specs.NamedParts.{NamedPiece, Expr, exprs, expr_of, pieces, piece_of, pieces_of, disjuncts_of}
use Rattle.over_questions.specs.declared.barred.Barred.{Barred}
use Rattle.over_questions.specs.Barred.{first, barred_expr, barred_exprs, barred_part, barred_operand, barred_parts, barred_disjuncts}

first_or_none : (a : Option Barred) → first a None ≡ a
first_or_none None = refl
first_or_none (Some b) = refl

first_of_three : (a b c : Option Barred) → first (first a b) c ≡ first a (first b c)
first_of_three None b c = refl
first_of_three (Some a) b c = refl

pub operand_is : (ps : List NamedPiece) → barred_operand (pieces ps) ≡ barred_parts ps
operand_is [] = refl
operand_is (p ∷ ps) = ap (first (barred_part p)) (operand_is ps)

exprs_behind : (es : List Expr) (e : Expr) → barred_exprs (exprs (es ++ e ∷ [])) ≡ first (barred_exprs (exprs es)) (barred_expr e)
exprs_behind [] e = first_or_none (barred_expr e)
exprs_behind (f ∷ es) e = ap (first (barred_expr f)) (exprs_behind es e) ∙ sym (first_of_three (barred_expr f) (barred_exprs (exprs es)) (barred_expr e))

parts_behind : (ps : List NamedPiece) (p : NamedPiece) → barred_parts (ps ++ p ∷ []) ≡ first (barred_parts ps) (barred_part p)
parts_behind [] p = first_or_none (barred_part p)
parts_behind (q ∷ ps) p = ap (first (barred_part q)) (parts_behind ps p) ∙ sym (first_of_three (barred_part q) (barred_parts ps) (barred_part p))

disjuncts_behind : (ds : List (List NamedPiece)) (d : List NamedPiece) → barred_disjuncts (ds ++ d ∷ []) ≡ first (barred_disjuncts ds) (barred_parts d)
disjuncts_behind [] d = first_or_none (barred_parts d)
disjuncts_behind (e ∷ ds) d = ap (first (barred_parts e)) (disjuncts_behind ds d) ∙ sym (first_of_three (barred_parts e) (barred_disjuncts ds) (barred_parts d))

-- ---- the next item

next_item : {A : Type 0} (xs : List A) (i : ℕ) (x : A) → i < length xs → x ≡ get_or xs i x → take (i + 1) xs ≡ take i xs ++ x ∷ []
next_item xs i x lt is = rw add-one (take-suc xs i x lt ∙ ap (λ y. take i xs ++ y ∷ []) (sym is))

pub next_expr : (es : List NamedExpr) (i : ℕ) (e : NamedExpr) → i < length es → e ≡ get_or es i e
    → barred_exprs (exprs (map expr_of (take (i + 1) es))) ≡ first (barred_exprs (exprs (map expr_of (take i es)))) (barred_expr (expr_of e))
next_expr es i e lt is =
    ap (λ l. barred_exprs (exprs (map expr_of l))) (next_item es i e lt is) ∙ ap (λ l. barred_exprs (exprs l)) (map-append expr_of (take i es) (e ∷ []))
    ∙ exprs_behind (map expr_of (take i es)) (expr_of e)

pub next_part : (ps : List NamedPart) (i : ℕ) (p : NamedPart) → i < length ps → p ≡ get_or ps i p
    → barred_parts (pieces_of (take (i + 1) ps)) ≡ first (barred_parts (pieces_of (take i ps))) (barred_part (piece_of p))
next_part ps i p lt is =
    ap (λ l. barred_parts (pieces_of l)) (next_item ps i p lt is) ∙ ap barred_parts (map-append piece_of (take i ps) (p ∷ []))
    ∙ parts_behind (pieces_of (take i ps)) (piece_of p)

pub next_disjunct : (ds : List (List NamedPart)) (i : ℕ) (d : List NamedPart) → i < length ds → d ≡ get_or ds i d
    → barred_disjuncts (disjuncts_of (take (i + 1) ds)) ≡ first (barred_disjuncts (disjuncts_of (take i ds))) (barred_parts (pieces_of d))
next_disjunct ds i d lt is =
    ap (λ l. barred_disjuncts (disjuncts_of l)) (next_item ds i d lt is) ∙ ap barred_disjuncts (map-append pieces_of (take i ds) (d ∷ []))
    ∙ disjuncts_behind (disjuncts_of (take i ds)) (pieces_of d)
