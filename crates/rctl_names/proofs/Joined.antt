-- Names one after the other: those before, one more, and those behind.
use Rattle.std.proofs.Common.{◌≡◌, ℕ, ◌+◌, ◌<◌, List, [], ◌∷◌, ◌++◌, map, take, drop, length, get_or, suc, None, Some, sym, ap, refl, ◌∙◌, append_assoc, add-one}
use Rattle.std.proofs.lemmas.List.{map-append, take-append-drop}
use Rattle.std.proofs.Math.Seq.{take-suc, drop-cons}
use Rattle.run_model.specs.Run.{Name}
use Rattle.log_lines.specs.Names.{place_of}
use Rattle.rctl_grammar.specs.declared.fault.FormulaFault.{FormulaFault}
use Rattle.rctl_grammar.specs.declared.tree.Place.{Place}
use Rattle.rctl_parts.specs.Exprs as expr
use Rattle.rctl_parts.specs.Pieces as piece
use Rattle.rctl_parts.specs.Spelled.{Names}
use Rattle.rctl_class.specs.Uses.{earlier}
use Rattle.rctl_class.proofs.Members.{earlier_assoc}
use Rattle.rctl_class.specs.NamedParts as named
use Rattle.rctl_names.specs.inside.Numbers.{Watched, put, put_at, variable_fault, watch_fault}
use Rattle.rctl_names.specs.inside.Numbers.{LocalName, a_variable, a_watch, local_names}
use Rattle.rctl_names.specs.inside.Numbers.{all_local_names, local_fault, local_after, part_fault}
use Rattle.rctl_names.specs.inside.Numbers.{operand_fault, part_after, operand_after}
use Rattle.rctl_names.specs.inside.Numbers.{disjuncts_fault, disjuncts_after}
use Rattle.rctl_names.specs.Resolving.{expr_in, exprs_in, piece_in, pieces_in}

-- ---- lists

module _ {T X : Type 0} (f : T → X) where
  cut_at : (ts : List T) (i : ℕ) (t : T) → i < length ts → t ≡ get_or ts i t → ts ≡ take i ts ++ t ∷ drop (i + 1) ts
  cut_at ts i t lt is = sym (take-append-drop i ts) ∙ ap (λ rest. take i ts ++ rest) (rw (add-one) (drop-cons ts i t lt ∙ ap (λ x. x ∷ drop (suc i) ts) (sym is)))

  pub taken_split : (ts : List T) (i : ℕ) (t : T) → i < length ts → t ≡ get_or ts i t → map f ts ≡ map f (take i ts) ++ f t ∷ map f (drop (i + 1) ts)
  taken_split ts i t lt is = ap (map f) (cut_at ts i t lt is) ∙ map-append f (take i ts) (t ∷ drop (i + 1) ts)

  pub taken_more : (ts : List T) (i : ℕ) (t : T) → i < length ts → t ≡ get_or ts i t → map f (take (i + 1) ts) ≡ map f (take i ts) ++ f t ∷ []
  taken_more ts i t lt is =
      let parts : take (i + 1) ts ≡ take i ts ++ t ∷ [] = rw add-one (take-suc ts i t lt ∙ ap (λ x. take i ts ++ x ∷ []) (sym is)) in
      ap (map f) parts ∙ map-append f (take i ts) (t ∷ [])

-- ---- the names of watches stay

pub put_names : (s : Watched) (p : ℕ) (w : Place) → (put s p w).names ≡ s.names
put_names s p w = elim (place_of s.names w.name) as (λ o. (put_at s p o).names ≡ s.names) [ None ↦ refl | Some k ↦ refl ]

pub after_names : (p : ℕ) (s : Watched) (us : List LocalName) → (local_after p s us).names ≡ s.names
after_names p s [] = refl
after_names p s (a_variable v ∷ us) = after_names p s us
after_names p s (a_watch w ∷ us) = after_names p (put s p w) us ∙ put_names s p w

mutual
  pub part_names : (names : Names) (s : Watched) (p : named.NamedPiece) → (part_after names s p).names ≡ s.names
  part_names names s (named.local None e) = after_names 0 s (local_names e)
  part_names names s (named.local (Some p) e) = after_names _ s (local_names e)
  part_names names s (named.at_most p q k) = refl
  part_names names s (named.at_least p q k) = refl
  part_names names s (named.never p q) = refl
  part_names names s (named.diff_at_most p x q y k) = refl
  part_names names s (named.diff_at_least p x q y k) = refl
  part_names names s (named.temporal o ps) = operand_names names s ps
  part_names names s (named.next p ps) = operand_names names s ps

  pub operand_names : (names : Names) (s : Watched) (ps : named.Pieces) → (operand_after names s ps).names ≡ s.names
  operand_names names s named.no_piece = refl
  operand_names names s (named.and_piece p ps) = operand_names names (part_after names s p) ps ∙ part_names names s p

pub disjuncts_names : (names : Names) (s : Watched) (ds : List (List named.NamedPiece)) → (disjuncts_after names s ds).names ≡ s.names
disjuncts_names names s [] = refl
disjuncts_names names s (d ∷ ds) = disjuncts_names names (operand_after names s (named.pieces d)) ds ∙ operand_names names s (named.pieces d)

-- ---- names of one process

pub fault_joined : (variables : List Name) (p : ℕ) (s : Watched) (us vs : List LocalName) →
    local_fault variables p s (us ++ vs) ≡ earlier (local_fault variables p s us) (local_fault variables p (local_after p s us) vs)
fault_joined variables p s [] vs = refl
fault_joined variables p s (a_variable v ∷ us) vs =
    ap (earlier (variable_fault variables v)) (fault_joined variables p s us vs)
    ∙ sym (earlier_assoc (variable_fault variables v) (local_fault variables p s us) (local_fault variables p (local_after p s us) vs))
fault_joined variables p s (a_watch w ∷ us) vs =
    ap (earlier (watch_fault s p w)) (fault_joined variables p (put s p w) us vs)
    ∙ sym (earlier_assoc (watch_fault s p w) (local_fault variables p (put s p w) us) (local_fault variables p (local_after p (put s p w) us) vs))

pub after_joined : (p : ℕ) (s : Watched) (us vs : List LocalName) → local_after p s (us ++ vs) ≡ local_after p (local_after p s us) vs
after_joined p s [] vs = refl
after_joined p s (a_variable v ∷ us) vs = after_joined p s us vs
after_joined p s (a_watch w ∷ us) vs = after_joined p (put s p w) us vs

names_joined : (xs ys : List named.Expr) → all_local_names (named.exprs (xs ++ ys)) ≡ all_local_names (named.exprs xs) ++ all_local_names (named.exprs ys)
names_joined [] ys = refl
names_joined (x ∷ xs) ys = ap (λ us. local_names x ++ us) (names_joined xs ys) ∙ sym (append_assoc (local_names x) (all_local_names (named.exprs xs)) (all_local_names (named.exprs ys)))

-- behind expressions without a fault, the fault of the next
pub expr_fails : (variables : List Name) (p : ℕ) (s t : Watched) (xs ys : List named.Expr) (x : named.Expr) (f : FormulaFault) →
    local_fault variables p s (all_local_names (named.exprs xs)) ≡ None → t ≡ local_after p s (all_local_names (named.exprs xs)) →
    local_fault variables p t (local_names x) ≡ Some f → local_fault variables p s (all_local_names (named.exprs (xs ++ x ∷ ys))) ≡ Some f
expr_fails variables p s t xs ys x f free after bad =
    ap (local_fault variables p s) (names_joined xs (x ∷ ys))
    ∙ fault_joined variables p s (all_local_names (named.exprs xs)) (local_names x ++ all_local_names (named.exprs ys))
    ∙ rw (free, ← after) (fault_joined variables p t (local_names x) (all_local_names (named.exprs ys)) ∙ rw bad refl)

-- and without one
pub expr_passes : (variables : List Name) (p : ℕ) (s t : Watched) (xs : List named.Expr) (x : named.Expr) →
    local_fault variables p s (all_local_names (named.exprs xs)) ≡ None → t ≡ local_after p s (all_local_names (named.exprs xs)) →
    local_fault variables p t (local_names x) ≡ None → local_fault variables p s (all_local_names (named.exprs (xs ++ x ∷ []))) ≡ None
expr_passes variables p s t xs x free after good =
    ap (local_fault variables p s) (names_joined xs (x ∷ []))
    ∙ fault_joined variables p s (all_local_names (named.exprs xs)) (local_names x ++ [])
    ∙ rw (free, ← after) (fault_joined variables p t (local_names x) [] ∙ rw good refl)

pub expr_after : (p : ℕ) (s t u : Watched) (xs : List named.Expr) (x : named.Expr) → t ≡ local_after p s (all_local_names (named.exprs xs)) →
    u ≡ local_after p t (local_names x) → u ≡ local_after p s (all_local_names (named.exprs (xs ++ x ∷ [])))
expr_after p s t u xs x before here =
    here ∙ sym (ap (local_after p s) (names_joined xs (x ∷ [])) ∙ after_joined p s (all_local_names (named.exprs xs)) (local_names x ++ [])
    ∙ rw (← before) (after_joined p t (local_names x) []))

abbrev exprs_joined : expr.Exprs → expr.Exprs → expr.Exprs
exprs_joined expr.none fs = fs
exprs_joined (expr.more e es) fs = expr.more e (exprs_joined es fs)

exprs-append : (xs ys : List expr.Expr) → expr.exprs (xs ++ ys) ≡ exprs_joined (expr.exprs xs) (expr.exprs ys)
exprs-append [] ys = refl
exprs-append (x ∷ xs) ys = ap (expr.more x) (exprs-append xs ys)

exprs_in-append : (variables watches : List Name) (xs ys : List named.Expr) →
    exprs_in variables watches (named.exprs (xs ++ ys)) ≡ exprs_joined (exprs_in variables watches (named.exprs xs)) (exprs_in variables watches (named.exprs ys))
exprs_in-append variables watches [] ys = refl
exprs_in-append variables watches (x ∷ xs) ys = ap (expr.more (expr_in variables watches x)) (exprs_in-append variables watches xs ys)

pub exprs_more : (variables watches others : List Name) (xs : List named.Expr) (x : named.Expr) (old : List expr.Expr) (e : expr.Expr) → others ≡ watches →
    expr.exprs old ≡ exprs_in variables watches (named.exprs xs) → e ≡ expr_in variables others x → expr.exprs (old ++ e ∷ []) ≡ exprs_in variables watches (named.exprs (xs ++ x ∷ []))
exprs_more variables watches others xs x old e same before here =
    exprs-append old (e ∷ []) ∙ rw (before, here, same) (sym (exprs_in-append variables watches xs (x ∷ [])))

-- ---- parts

pub operand_fault_joined : (names : Names) (s : Watched) (xs ys : List named.NamedPiece) →
    operand_fault names s (named.pieces (xs ++ ys)) ≡ earlier (operand_fault names s (named.pieces xs)) (operand_fault names (operand_after names s (named.pieces xs)) (named.pieces ys))
operand_fault_joined names s [] ys = refl
operand_fault_joined names s (x ∷ xs) ys =
    ap (earlier (part_fault names s x)) (operand_fault_joined names (part_after names s x) xs ys)
    ∙ sym (earlier_assoc (part_fault names s x) (operand_fault names (part_after names s x) (named.pieces xs)) (operand_fault names (operand_after names (part_after names s x) (named.pieces xs)) (named.pieces ys)))

pub operand_after_joined : (names : Names) (s : Watched) (xs ys : List named.NamedPiece) →
    operand_after names s (named.pieces (xs ++ ys)) ≡ operand_after names (operand_after names s (named.pieces xs)) (named.pieces ys)
operand_after_joined names s [] ys = refl
operand_after_joined names s (x ∷ xs) ys = operand_after_joined names (part_after names s x) xs ys

pub piece_fails : (names : Names) (s t : Watched) (xs ys : List named.NamedPiece) (x : named.NamedPiece) (f : FormulaFault) → operand_fault names s (named.pieces xs) ≡ None →
    t ≡ operand_after names s (named.pieces xs) → part_fault names t x ≡ Some f → operand_fault names s (named.pieces (xs ++ x ∷ ys)) ≡ Some f
piece_fails names s t xs ys x f free after bad = operand_fault_joined names s xs (x ∷ ys) ∙ rw (free, ← after, bad) refl

pub piece_passes : (names : Names) (s t : Watched) (xs : List named.NamedPiece) (x : named.NamedPiece) → operand_fault names s (named.pieces xs) ≡ None →
    t ≡ operand_after names s (named.pieces xs) → part_fault names t x ≡ None → operand_fault names s (named.pieces (xs ++ x ∷ [])) ≡ None
piece_passes names s t xs x free after good = operand_fault_joined names s xs (x ∷ []) ∙ rw (free, ← after, good) refl

pub piece_after : (names : Names) (s t u : Watched) (xs : List named.NamedPiece) (x : named.NamedPiece) → t ≡ operand_after names s (named.pieces xs) →
    u ≡ part_after names t x → u ≡ operand_after names s (named.pieces (xs ++ x ∷ []))
piece_after names s t u xs x before here = here ∙ ap (λ v. part_after names v x) before ∙ sym (operand_after_joined names s xs (x ∷ []))

abbrev pieces_joined : piece.Pieces → piece.Pieces → piece.Pieces
pieces_joined piece.none qs = qs
pieces_joined (piece.more p ps) qs = piece.more p (pieces_joined ps qs)

pieces-append : (xs ys : List piece.Piece) → piece.pieces (xs ++ ys) ≡ pieces_joined (piece.pieces xs) (piece.pieces ys)
pieces-append [] ys = refl
pieces-append (x ∷ xs) ys = ap (piece.more x) (pieces-append xs ys)

pieces_in-append : (names : Names) (xs ys : List named.NamedPiece) →
    pieces_in names (named.pieces (xs ++ ys)) ≡ pieces_joined (pieces_in names (named.pieces xs)) (pieces_in names (named.pieces ys))
pieces_in-append names [] ys = refl
pieces_in-append names (x ∷ xs) ys = ap (piece.more (piece_in names x)) (pieces_in-append names xs ys)

pub pieces_more : (names others : Names) (xs : List named.NamedPiece) (x : named.NamedPiece) (old : List piece.Piece) (p : piece.Piece) → others ≡ names →
    piece.pieces old ≡ pieces_in names (named.pieces xs) → p ≡ piece_in others x → piece.pieces (old ++ p ∷ []) ≡ pieces_in names (named.pieces (xs ++ x ∷ []))
pieces_more names others xs x old p same before here =
    pieces-append old (p ∷ []) ∙ rw (before, here, same) (sym (pieces_in-append names xs (x ∷ [])))

-- ---- disjuncts

pub disjuncts_fault_joined : (names : Names) (s : Watched) (ds es : List (List named.NamedPiece)) →
    disjuncts_fault names s (ds ++ es) ≡ earlier (disjuncts_fault names s ds) (disjuncts_fault names (disjuncts_after names s ds) es)
disjuncts_fault_joined names s [] es = refl
disjuncts_fault_joined names s (d ∷ ds) es =
    ap (earlier (operand_fault names s (named.pieces d))) (disjuncts_fault_joined names (operand_after names s (named.pieces d)) ds es)
    ∙ sym (earlier_assoc (operand_fault names s (named.pieces d)) (disjuncts_fault names (operand_after names s (named.pieces d)) ds) (disjuncts_fault names (disjuncts_after names (operand_after names s (named.pieces d)) ds) es))

pub disjuncts_after_joined : (names : Names) (s : Watched) (ds es : List (List named.NamedPiece)) →
    disjuncts_after names s (ds ++ es) ≡ disjuncts_after names (disjuncts_after names s ds) es
disjuncts_after_joined names s [] es = refl
disjuncts_after_joined names s (d ∷ ds) es = disjuncts_after_joined names (operand_after names s (named.pieces d)) ds es

pub disjunct_fails : (names : Names) (s t : Watched) (ds es : List (List named.NamedPiece)) (d : List named.NamedPiece) (f : FormulaFault) → disjuncts_fault names s ds ≡ None →
    t ≡ disjuncts_after names s ds → operand_fault names t (named.pieces d) ≡ Some f → disjuncts_fault names s (ds ++ d ∷ es) ≡ Some f
disjunct_fails names s t ds es d f free after bad = disjuncts_fault_joined names s ds (d ∷ es) ∙ rw (free, ← after, bad) refl

pub disjunct_passes : (names : Names) (s t : Watched) (ds : List (List named.NamedPiece)) (d : List named.NamedPiece) → disjuncts_fault names s ds ≡ None →
    t ≡ disjuncts_after names s ds → operand_fault names t (named.pieces d) ≡ None → disjuncts_fault names s (ds ++ d ∷ []) ≡ None
disjunct_passes names s t ds d free after good = disjuncts_fault_joined names s ds (d ∷ []) ∙ rw (free, ← after, good) refl

pub disjunct_after : (names : Names) (s t u : Watched) (ds : List (List named.NamedPiece)) (d : List named.NamedPiece) → t ≡ disjuncts_after names s ds →
    u ≡ operand_after names t (named.pieces d) → u ≡ disjuncts_after names s (ds ++ d ∷ [])
disjunct_after names s t u ds d before here = here ∙ ap (λ v. operand_after names v (named.pieces d)) before ∙ sym (disjuncts_after_joined names s ds (d ∷ []))
