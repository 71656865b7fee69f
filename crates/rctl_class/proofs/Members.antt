-- Members one after the other: those before a member, the member, and those behind it.
use Rattle.std.proofs.Common.{◌≡◌, ℕ, ◌+◌, ◌<◌, Bool, true, false, ◌&&◌, List, [], ◌∷◌, ◌++◌, map, take, drop, length, get_or, Option, None, Some, sym, ap, refl, ◌∙◌, append_assoc, append-nil, add-one, suc}
use Rattle.std.proofs.lemmas.List.{map-append, take-append-drop}
use Rattle.std.proofs.Math.Seq.{take-suc, drop-cons}
use Rattle.rctl_grammar.specs.declared.fault.FormulaFault.{FormulaFault}
use Rattle.rctl_grammar.specs.declared.tree.Place.{Place}
use Rattle.rctl_grammar.specs.declared.tree.Tree.{Tree}
use Rattle.run_model.specs.Run.{Name}
use Rattle.rctl_class.specs.Nodes.{Node, Nodes, none, more, nodes_of, node_of}
use Rattle.rctl_class.specs.Uses as used
use Rattle.rctl_class.specs.Uses.{Use, all_uses, uses_of, earlier}
use Rattle.rctl_class.specs.Faults.{first_fault, first_of}
use Rattle.rctl_class.specs.NamedParts.{Expr, Exprs, no_expr, and_expr, exprs, NamedPiece}
use Rattle.rctl_class.specs.Walk.{first_place, expr_from, exprs_from, parts_from, all_parts}
use Rattle.rctl_class.specs.Walk.{disjuncts_from, all_disjuncts}
use Rattle.rctl_class.specs.inside.Walk.{all_over, is_over}

abbrev pub joined : Nodes → Nodes → Nodes
joined none ms = ms
joined (more n ns) ms = more n (joined ns ms)

nodes_joined : (xs ys : List Node) → nodes_of (xs ++ ys) ≡ joined (nodes_of xs) (nodes_of ys)
nodes_joined [] ys = refl
nodes_joined (x ∷ xs) ys = ap (more x) (nodes_joined xs ys)

-- the nodes of the first i trees
abbrev pub before : List Tree → ℕ → Nodes
before ts i = nodes_of (map node_of (take i ts))

-- the nodes of the trees behind tree number i
abbrev pub behind : List Tree → ℕ → Nodes
behind ts i = nodes_of (map node_of (drop (i + 1) ts))

cut_at : (ts : List Tree) (i : ℕ) (t : Tree) → i < length ts → t ≡ get_or ts i t → ts ≡ take i ts ++ t ∷ drop (i + 1) ts
cut_at ts i t lt is = sym (take-append-drop i ts) ∙ ap (λ rest. take i ts ++ rest) (rw (add-one) (drop-cons ts i t lt ∙ ap (λ x. x ∷ drop (suc i) ts) (sym is)))

pub members_split : (ts : List Tree) (i : ℕ) (t : Tree) → i < length ts → t ≡ get_or ts i t → nodes_of (map node_of ts) ≡ joined (before ts i) (more (node_of t) (behind ts i))
members_split ts i t lt is =
    ap (λ l. nodes_of (map node_of l)) (cut_at ts i t lt is) ∙ ap nodes_of (map-append node_of (take i ts) (t ∷ drop (i + 1) ts))
    ∙ nodes_joined (map node_of (take i ts)) (node_of t ∷ map node_of (drop (i + 1) ts))

pub members_more : (ts : List Tree) (i : ℕ) (t : Tree) → i < length ts → t ≡ get_or ts i t → before ts (i + 1) ≡ joined (before ts i) (more (node_of t) none)
members_more ts i t lt is =
    let parts : take (i + 1) ts ≡ take i ts ++ t ∷ [] = rw add-one (take-suc ts i t lt ∙ ap (λ x. take i ts ++ x ∷ []) (sym is)) in
    ap (λ l. nodes_of (map node_of l)) parts ∙ ap nodes_of (map-append node_of (take i ts) (t ∷ []))
    ∙ nodes_joined (map node_of (take i ts)) (node_of t ∷ [])

-- ---- the first name of a process

abbrev pub or_else : Option Place → Option Place → Option Place
or_else None o = o
or_else (Some p) o = Some p

pub first_joined : (us vs : List Use) → first_place (us ++ vs) ≡ or_else (first_place us) (first_place vs)
first_joined [] vs = refl
first_joined (used.process p ∷ us) vs = refl
first_joined (used.variable p v ∷ us) vs = first_joined us vs
first_joined (used.watch p w ∷ us) vs = first_joined us vs

pub uses_joined : (ns ms : Nodes) → all_uses (joined ns ms) ≡ all_uses ns ++ all_uses ms
uses_joined none ms = refl
uses_joined (more n ns) ms = ap (λ us. uses_of n ++ us) (uses_joined ns ms) ∙ sym (append_assoc (uses_of n) (all_uses ns) (all_uses ms))

pub first_found : (us vs : List Use) {p : Place} → first_place us ≡ Some p → first_place (us ++ vs) ≡ Some p
first_found us vs h = first_joined us vs ∙ rw h refl

pub first_later : (us vs : List Use) → first_place us ≡ None → first_place (us ++ vs) ≡ first_place vs
first_later us vs h = first_joined us vs ∙ rw h refl

pub place_found : (ts : List Tree) (i : ℕ) (t : Tree) (p : Place) → i < length ts → t ≡ get_or ts i t → first_place (all_uses (before ts i)) ≡ None →
    first_place (uses_of (node_of t)) ≡ Some p → Some p ≡ first_place (all_uses (nodes_of (map node_of ts)))
place_found ts i t p lt is none_yet here = sym (
    ap (λ ns. first_place (all_uses ns)) (members_split ts i t lt is)
    ∙ ap first_place (uses_joined (before ts i) (more (node_of t) (behind ts i)))
    ∙ first_later (all_uses (before ts i)) (uses_of (node_of t) ++ all_uses (behind ts i)) none_yet
    ∙ first_found (uses_of (node_of t)) (all_uses (behind ts i)) here)

pub place_missed : (ts : List Tree) (i : ℕ) (t : Tree) → i < length ts → t ≡ get_or ts i t → first_place (all_uses (before ts i)) ≡ None →
    first_place (uses_of (node_of t)) ≡ None → first_place (all_uses (before ts (i + 1))) ≡ None
place_missed ts i t lt is none_yet here =
    ap (λ ns. first_place (all_uses ns)) (members_more ts i t lt is)
    ∙ ap first_place (uses_joined (before ts i) (more (node_of t) none))
    ∙ first_later (all_uses (before ts i)) (uses_of (node_of t) ++ []) none_yet
    ∙ ap first_place (append-nil (uses_of (node_of t))) ∙ here

-- ---- expressions

all_over-joined : (p : Option Name) (ns ms : Nodes) → all_over p (joined ns ms) ≡ all_over p ns && all_over p ms
all_over-joined p none ms = refl
all_over-joined p (more n ns) ms = elim (is_over p n) as (λ b. b && all_over p (joined ns ms) ≡ (b && all_over p ns) && all_over p ms) [ true ↦ all_over-joined p ns ms | false ↦ refl ]

abbrev pub exprs_joined : Exprs → Exprs → Exprs
exprs_joined no_expr fs = fs
exprs_joined (and_expr e es) fs = and_expr e (exprs_joined es fs)

exprs_from-joined : (ns ms : Nodes) → exprs_from (joined ns ms) ≡ exprs_joined (exprs_from ns) (exprs_from ms)
exprs_from-joined none ms = refl
exprs_from-joined (more n ns) ms = ap (and_expr (expr_from n)) (exprs_from-joined ns ms)

exprs-append : (xs ys : List Expr) → exprs (xs ++ ys) ≡ exprs_joined (exprs xs) (exprs ys)
exprs-append [] ys = refl
exprs-append (x ∷ xs) ys = ap (and_expr x) (exprs-append xs ys)

pub over_more : (p : Option Name) (ts : List Tree) (i : ℕ) (t : Tree) → i < length ts → t ≡ get_or ts i t → all_over p (before ts i) ≡ true →
    is_over p (node_of t) ≡ true → all_over p (before ts (i + 1)) ≡ true
over_more p ts i t lt is so_far here =
    ap (all_over p) (members_more ts i t lt is) ∙ all_over-joined p (before ts i) (more (node_of t) none) ∙ rw (so_far, here) refl

pub over_fails : (p : Option Name) (ts : List Tree) (i : ℕ) (t : Tree) → i < length ts → t ≡ get_or ts i t → all_over p (before ts i) ≡ true →
    is_over p (node_of t) ≡ false → all_over p (nodes_of (map node_of ts)) ≡ false
over_fails p ts i t lt is so_far here =
    ap (all_over p) (members_split ts i t lt is) ∙ all_over-joined p (before ts i) (more (node_of t) (behind ts i)) ∙ rw (so_far, here) refl

pub exprs_more : (ts : List Tree) (i : ℕ) (t : Tree) (old : List Expr) (e : Expr) → i < length ts → t ≡ get_or ts i t → exprs old ≡ exprs_from (before ts i) →
    e ≡ expr_from (node_of t) → exprs (old ++ e ∷ []) ≡ exprs_from (before ts (i + 1))
exprs_more ts i t old e lt is so_far here =
    exprs-append old (e ∷ []) ∙ rw (so_far, here) (sym (exprs_from-joined (before ts i) (more (node_of t) none)) ∙ ap exprs_from (sym (members_more ts i t lt is)))

-- ---- faults

pub earlier_assoc : (a b c : Option FormulaFault) → earlier (earlier a b) c ≡ earlier a (earlier b c)
earlier_assoc None b c = refl
earlier_assoc (Some f) b c = refl

pub first_of-joined : (inside sign : Bool) (ns ms : Nodes) → first_of inside sign (joined ns ms) ≡ earlier (first_of inside sign ns) (first_of inside sign ms)
first_of-joined inside sign none ms = refl
first_of-joined inside sign (more n ns) ms =
    ap (earlier (first_fault inside sign n)) (first_of-joined inside sign ns ms)
    ∙ sym (earlier_assoc (first_fault inside sign n) (first_of inside sign ns) (first_of inside sign ms))

pub free_more : (inside sign : Bool) (ts : List Tree) (i : ℕ) (t : Tree) → i < length ts → t ≡ get_or ts i t → first_of inside sign (before ts i) ≡ None →
    first_fault inside sign (node_of t) ≡ None → first_of inside sign (before ts (i + 1)) ≡ None
free_more inside sign ts i t lt is so_far here =
    ap (first_of inside sign) (members_more ts i t lt is) ∙ first_of-joined inside sign (before ts i) (more (node_of t) none) ∙ rw (so_far, here) refl

pub fault_found : (inside sign : Bool) (ts : List Tree) (i : ℕ) (t : Tree) (f : FormulaFault) → i < length ts → t ≡ get_or ts i t → first_of inside sign (before ts i) ≡ None →
    first_fault inside sign (node_of t) ≡ Some f → first_of inside sign (nodes_of (map node_of ts)) ≡ Some f
fault_found inside sign ts i t f lt is so_far here =
    ap (first_of inside sign) (members_split ts i t lt is) ∙ first_of-joined inside sign (before ts i) (more (node_of t) (behind ts i)) ∙ rw (so_far, here) refl

-- ---- parts and disjuncts

pub all_parts-joined : (sign : Bool) (ns ms : Nodes) → all_parts sign (joined ns ms) ≡ all_parts sign ns ++ all_parts sign ms
all_parts-joined sign none ms = refl
all_parts-joined sign (more n ns) ms =
    ap (λ ps. parts_from sign n ++ ps) (all_parts-joined sign ns ms) ∙ sym (append_assoc (parts_from sign n) (all_parts sign ns) (all_parts sign ms))

pub parts_more : (sign : Bool) (ts : List Tree) (i : ℕ) (t : Tree) (start : List NamedPiece) {old new : List NamedPiece} → i < length ts → t ≡ get_or ts i t →
    old ≡ start ++ all_parts sign (before ts i) → new ≡ old ++ parts_from sign (node_of t) → new ≡ start ++ all_parts sign (before ts (i + 1))
parts_more sign ts i t start lt is so_far here =
    let all = ap (all_parts sign) (members_more ts i t lt is) ∙ all_parts-joined sign (before ts i) (more (node_of t) none)
    ∙ ap (λ ps. all_parts sign (before ts i) ++ ps) (append-nil (parts_from sign (node_of t))) in
    here ∙ rw (so_far, all) (append_assoc start (all_parts sign (before ts i)) (parts_from sign (node_of t)))

pub all_disjuncts-joined : (sign : Bool) (ns ms : Nodes) → all_disjuncts sign (joined ns ms) ≡ all_disjuncts sign ns ++ all_disjuncts sign ms
all_disjuncts-joined sign none ms = refl
all_disjuncts-joined sign (more n ns) ms =
    ap (λ ds. disjuncts_from sign n ++ ds) (all_disjuncts-joined sign ns ms) ∙ sym (append_assoc (disjuncts_from sign n) (all_disjuncts sign ns) (all_disjuncts sign ms))

pub disjuncts_more : (sign : Bool) (ts : List Tree) (i : ℕ) (t : Tree) (start : List (List NamedPiece)) {old new : List (List NamedPiece)} → i < length ts → t ≡ get_or ts i t →
    old ≡ start ++ all_disjuncts sign (before ts i) → new ≡ old ++ disjuncts_from sign (node_of t) → new ≡ start ++ all_disjuncts sign (before ts (i + 1))
disjuncts_more sign ts i t start lt is so_far here =
    let all = ap (all_disjuncts sign) (members_more ts i t lt is) ∙ all_disjuncts-joined sign (before ts i) (more (node_of t) none)
    ∙ ap (λ ds. all_disjuncts sign (before ts i) ++ ds) (append-nil (disjuncts_from sign (node_of t))) in
    here ∙ rw (so_far, all) (append_assoc start (all_disjuncts sign (before ts i)) (disjuncts_from sign (node_of t)))
