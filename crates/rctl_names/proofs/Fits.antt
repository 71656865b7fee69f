-- The parts with numbers are made for the header and the watches.
use Rattle.std.proofs.Common.{◌≡◌, ℕ, ℤ, IsTrue, zero, suc, ◌+◌, ◌<◌, ◌==◌, Bool, true, false, not, ◌||◌, List, [], ◌∷◌, map, length, get_or, set, Option, None, Some, sym, ap, refl, ◌∙◌, arith, rules, subst}
use Rattle.std.proofs.lemmas.Bool.{false≢true}
use Rattle.std.proofs.lemmas.Bool.Decides.{nat_tests}
use Rattle.std.proofs.lemmas.Slice.Eq.{bytes_eq-Decides}
use Rattle.std.specs.Prelude.{bytes_eq}
use Rattle.run_model.specs.Run.{Name}
use Rattle.run_model.specs.Class.{is_analysed}
use Rattle.log_lines.specs.Names.{place_of}
use Rattle.rctl_grammar.specs.declared.fault.FormulaCode.TheVariants as code
use Rattle.rctl_grammar.specs.declared.tree.Operator.{Operator}
use Rattle.rctl_grammar.specs.declared.tree.Operator.TheVariants as operator
use Rattle.rctl_grammar.specs.declared.tree.Place.{Place}
use Rattle.rctl_grammar.specs.Shape.{model_operator}
use Rattle.rctl_parts.specs.Spelled.{Names}
use Rattle.rctl_parts.specs.MadeFor as made
use Rattle.rctl_parts.specs.MadeFor.{Scope, SideFits, VariableFits, DifferenceFits, OperatorFits, ExprFits, ExprsFit, PieceFits, PiecesFit, EachFits, AllFit, names_watch, some_names_watch, part_names_watch, operand_names_watch, parts_name_watch, disjuncts_name_watch}
use Rattle.rctl_class.specs.declared.named.NamedSide.{NamedSide}
use Rattle.rctl_class.specs.declared.named.NamedSide.TheVariants as side
use Rattle.rctl_class.specs.Uses.{earlier}
use Rattle.rctl_class.specs.NamedParts as named
use Rattle.rctl_class.proofs.Alike.{none_both}
use Rattle.rctl_names.specs.Numbers.{number, variables_of}
use Rattle.rctl_names.specs.inside.Numbers.{Watched, variable_fault, process_fault, watch_fault}
use Rattle.rctl_names.specs.inside.Numbers.{put, put_at, is_other, LocalName, a_variable, a_watch}
use Rattle.rctl_names.specs.inside.Numbers.{side_names, local_names, all_local_names, local_fault}
use Rattle.rctl_names.specs.inside.Numbers.{local_after, counter_fault, part_fault, operand_fault}
use Rattle.rctl_names.specs.inside.Numbers.{part_after, operand_after, disjuncts_fault}
use Rattle.rctl_names.specs.inside.Numbers.{disjuncts_after}
use Rattle.rctl_names.specs.Resolving.{side_in, expr_in, exprs_in, process_in, variable_in}
use Rattle.rctl_names.specs.Resolving.{piece_in, pieces_in}
use Rattle.rctl_names.proofs.Lookups.{found_within, found_number, found_once}
use Rattle.rctl_names.proofs.Joined.{after_names, part_names, operand_names, fault_joined, after_joined}
use Rattle.rctl_names.proofs.Spells.{known_at, watch_known, variables_there}
use Rattle.rctl_names.proofs.Tracks.{set_there, set_others, set_length, put_found, watch_free}

-- ---- entries stay

pub record Keeps (s t : Watched) : Type 0 where
  pub sized : length t.on ≡ length s.on
  pub kept : (k i : ℕ) → get_or s.on k None ≡ Some i → get_or t.on k None ≡ Some i

pub keeps_itself : (s : Watched) → Keeps s s
keeps_itself s = record { sized = refl; kept = λ k i h. h }

keeps_then : (s t u : Watched) → Keeps s t → Keeps t u → Keeps s u
keeps_then s t u a b = record { sized = b.sized ∙ a.sized; kept = λ k i h. b.kept k i (a.kept k i h) }

same_number : (i j : ℕ) → not (j == i) ≡ false → j ≡ i
same_number i j h = search (rules, nat_tests)

set_keeps : (l : List (Option ℕ)) (k i m j : ℕ) → is_other (get_or l k None) i ≡ false → get_or l m None ≡ Some j → get_or (set l k (Some i)) m None ≡ Some j
set_keeps [] k i m j quiet h = absurd (cc)
set_keeps (o ∷ l) zero i zero j quiet h = ap Some (sym (same_number i j (ap (λ x. is_other x i) (sym h) ∙ quiet)))
set_keeps (o ∷ l) zero i (suc m) j quiet h = h
set_keeps (o ∷ l) (suc k) i zero j quiet h = h
set_keeps (o ∷ l) (suc k) i (suc m) j quiet h = set_keeps l k i m j quiet h

put_keeps : (s : Watched) (i : ℕ) (w : Place) → watch_fault s i w ≡ None → Keeps s (put s i w)
put_keeps s i w free =
    let is = watch_known s i w free in
    let P : Watched → Type 0 = λ t. Keeps s t in
    subst P (sym (put_found s i is.at w is.found))
    (record { sized = set_length s.on is.at (Some i); kept = λ k j h. set_keeps s.on is.at i k j (watch_free s i is.at w is.found free) h })

local_keeps : (variables : List Name) (i : ℕ) (s : Watched) (us : List LocalName) → local_fault variables i s us ≡ None → Keeps s (local_after i s us)
local_keeps variables i s [] free = keeps_itself s
local_keeps variables i s (a_variable v ∷ us) free = local_keeps variables i s us (none_both (variable_fault variables v) (local_fault variables i s us) free).1
local_keeps variables i s (a_watch w ∷ us) free =
    let both = none_both (watch_fault s i w) (local_fault variables i (put s i w) us) free in
    keeps_then s (put s i w) (local_after i (put s i w) us) (put_keeps s i w both.0) (local_keeps variables i (put s i w) us both.1)

mutual
  part_keeps : (names : Names) (s : Watched) (p : named.NamedPiece) → part_fault names s p ≡ None → Keeps s (part_after names s p)
  part_keeps names s (named.local None e) free = local_keeps [] 0 s (local_names e) free
  part_keeps names s (named.local (Some p) e) free =
      local_keeps (variables_of names p.name) (number names.processes p.name) s (local_names e)
      (none_both (process_fault names.processes p) (local_fault (variables_of names p.name) (number names.processes p.name) s (local_names e)) free).1
  part_keeps names s (named.at_most p q k) free = keeps_itself s
  part_keeps names s (named.at_least p q k) free = keeps_itself s
  part_keeps names s (named.never p q) free = keeps_itself s
  part_keeps names s (named.diff_at_most p x q y k) free = keeps_itself s
  part_keeps names s (named.diff_at_least p x q y k) free = keeps_itself s
  part_keeps names s (named.temporal o ps) free = operand_keeps names s ps free
  part_keeps names s (named.next p ps) free = operand_keeps names s ps (none_both (process_fault names.processes p) (operand_fault names s ps) free).1

  operand_keeps : (names : Names) (s : Watched) (ps : named.Pieces) → operand_fault names s ps ≡ None → Keeps s (operand_after names s ps)
  operand_keeps names s named.no_piece free = keeps_itself s
  operand_keeps names s (named.and_piece p ps) free =
      let both = none_both (part_fault names s p) (operand_fault names (part_after names s p) ps) free in
      keeps_then s (part_after names s p) (operand_after names (part_after names s p) ps) (part_keeps names s p both.0) (operand_keeps names (part_after names s p) ps both.1)

pub disjuncts_keep : (names : Names) (s : Watched) (ds : List (List named.NamedPiece)) → disjuncts_fault names s ds ≡ None → Keeps s (disjuncts_after names s ds)
disjuncts_keep names s [] free = keeps_itself s
disjuncts_keep names s (d ∷ ds) free =
    let both = none_both (operand_fault names s (named.pieces d)) (disjuncts_fault names (operand_after names s (named.pieces d)) ds) free in
    keeps_then s (operand_after names s (named.pieces d)) (disjuncts_after names (operand_after names s (named.pieces d)) ds) (operand_keeps names s (named.pieces d) both.0)
    (disjuncts_keep names (operand_after names s (named.pieces d)) ds both.1)

-- ---- expressions

variable_within : (variables : List Name) (v : Place) → variable_fault variables v ≡ None → number variables v.name < length variables
variable_within variables v free =
    let is = known_at code.UnknownVariable variables v free in
    let P : ℕ → Type 0 = λ k. k < length variables in
    subst P (sym (found_number variables v.name is.at is.found)) (found_within variables v.name is.at is.found)

side_fits : (variables : List Name) (i : ℕ) (s : Watched) (right : NamedSide) → local_fault variables i s (side_names right) ≡ None → SideFits (length variables) (side_in variables right)
side_fits variables i s (side.Number value) free = tt
side_fits variables i s (side.Variable v) free = variable_within variables v (none_both (variable_fault variables v) None free).0

watch_fits : (s t : Watched) (i : ℕ) (w : Place) → length s.on ≡ length s.names → watch_fault s i w ≡ None → Keeps (put s i w) t →
    (number s.names w.name < length t.on) × (get_or t.on (number s.names w.name) None ≡ Some i)
watch_fits s t i w sized free keeps =
    let is = watch_known s i w free in
    let k = is.at in
    let within : k < length s.on = omega (arith, found_within s.names w.name k is.found, sized) in
    let P : Watched → Type 0 = λ u. Keeps u t in
    let kept = subst P (put_found s i k w is.found) keeps in
    let Q : ℕ → Type 0 = λ n. (n < length t.on) × (get_or t.on n None ≡ Some i) in
    subst Q (sym (found_number s.names w.name k is.found))
    (omega (arith, within, kept.sized, set_length s.on k (Some i)), kept.kept k i (set_there s.on k (Some i) within))

mutual
  expr_fits : (variables watches : List Name) (i : ℕ) (s t : Watched) (e : named.Expr) → s.names ≡ watches → length s.on ≡ length watches → local_fault variables i s (local_names e) ≡ None →
      Keeps (local_after i s (local_names e)) t → ExprFits (length variables) t.on i (expr_in variables watches e)
  expr_fits variables watches i s t (named.truth value) same sized free keeps = tt
  expr_fits variables watches i s t (named.comparison left compare right) same sized free keeps =
      let both = none_both (variable_fault variables left) (local_fault variables i s (side_names right)) free in
      (variable_within variables left both.0, side_fits variables i s right both.1)
  expr_fits variables watches i s t (named.watched name) same sized free keeps =
      let P : List Name → Type 0 = λ ws. (number ws name.name < length t.on) × (get_or t.on (number ws name.name) None ≡ Some i) in
      subst P same (watch_fits s t i name (sized ∙ ap length (sym same)) (none_both (watch_fault s i name) None free).0 keeps)
  expr_fits variables watches i s t (named.negation e) same sized free keeps = expr_fits variables watches i s t e same sized free keeps
  expr_fits variables watches i s t (named.conjunction es) same sized free keeps = exprs_fit variables watches i s t es same sized free keeps
  expr_fits variables watches i s t (named.disjunction es) same sized free keeps = exprs_fit variables watches i s t es same sized free keeps

  exprs_fit : (variables watches : List Name) (i : ℕ) (s t : Watched) (es : named.Exprs) → s.names ≡ watches → length s.on ≡ length watches → local_fault variables i s (all_local_names es) ≡ None →
      Keeps (local_after i s (all_local_names es)) t → ExprsFit (length variables) t.on i (exprs_in variables watches es)
  exprs_fit variables watches i s t named.no_expr same sized free keeps = tt
  exprs_fit variables watches i s t (named.and_expr e es) same sized free keeps =
      let u = local_after i s (local_names e) in
      let both = none_both (local_fault variables i s (local_names e)) (local_fault variables i u (all_local_names es)) (sym (fault_joined variables i s (local_names e) (all_local_names es)) ∙ free) in
      let P : Watched → Type 0 = λ v. Keeps v t in
      let rest = subst P (after_joined i s (local_names e) (all_local_names es)) keeps in
      let here = local_keeps variables i s (local_names e) both.0 in (
        expr_fits variables watches i s t e same sized both.0 (keeps_then u (local_after i u (all_local_names es)) t (local_keeps variables i u (all_local_names es) both.1) rest),
        exprs_fit variables watches i u t es (after_names i s (local_names e) ∙ same) (here.sized ∙ sized) both.1 rest,
      )

mutual
  constant_in : (variables watches : List Name) (e : named.Expr) → made.is_constant (expr_in variables watches e) ≡ named.is_constant e
  constant_in variables watches (named.truth value) = refl
  constant_in variables watches (named.comparison left compare right) = refl
  constant_in variables watches (named.watched name) = refl
  constant_in variables watches (named.negation e) = constant_in variables watches e
  constant_in variables watches (named.conjunction es) = constants_in variables watches es
  constant_in variables watches (named.disjunction es) = constants_in variables watches es

  constants_in : (variables watches : List Name) (es : named.Exprs) → made.are_constant (exprs_in variables watches es) ≡ named.are_constant es
  constants_in variables watches named.no_expr = refl
  constants_in variables watches (named.and_expr e es) = rw (constant_in variables watches e, constants_in variables watches es) refl

-- ---- parts

-- what the parts are made for
abbrev pub scope_for : Names → Watched → Scope
scope_for names t = record { variables = map (λ (v : List Name). length v) names.variables; watch_process = t.on }

length_mapped : (vs : List (List Name)) → length (map (λ (v : List Name). length v) vs) ≡ length vs
length_mapped [] = refl
length_mapped (v ∷ vs) = ap suc (length_mapped vs)

length_at : (vs : List (List Name)) (k : ℕ) → get_or (map (λ (v : List Name). length v) vs) k 0 ≡ length (get_or vs k [])
length_at [] k = refl
length_at (v ∷ vs) zero = refl
length_at (v ∷ vs) (suc k) = length_at vs k

-- a list of variables for each process, and an entry for each watch
pub record IsSized (names : Names) (s : Watched) : Type 0 where
  pub paired : length names.variables ≡ length names.processes
  pub same : s.names ≡ names.watches
  pub sized : length s.on ≡ length names.watches

process_within : (names : Names) (s t : Watched) (p : Place) → IsSized names s → process_fault names.processes p ≡ None → number names.processes p.name < length (scope_for names t).variables
process_within names s t p is free =
    let at = known_at code.UnknownProcess names.processes p free in
    let P : ℕ → Type 0 = λ k. k < length (map (λ (v : List Name). length v) names.variables) in
    subst P (sym (found_number names.processes p.name at.at at.found))
    (omega (arith, found_within names.processes p.name at.at at.found, is.paired, length_mapped names.variables))

local_fits : (names : Names) (s t : Watched) (p : Place) (e : named.Expr) → IsSized names s → named.is_constant e ≡ false → part_fault names s (named.local (Some p) e) ≡ None →
    Keeps (part_after names s (named.local (Some p) e)) t → PieceFits (scope_for names t) (piece_in names (named.local (Some p) e))
local_fits names s t p e is constant free keeps =
    let k = number names.processes p.name in
    let both = none_both (process_fault names.processes p) (local_fault (variables_of names p.name) k s (local_names e)) free in
    let at = known_at code.UnknownProcess names.processes p both.0 in
    let fits = expr_fits (variables_of names p.name) names.watches k s t e is.same is.sized both.1 keeps in
    let many : length (variables_of names p.name) ≡ get_or (map (λ (v : List Name). length v) names.variables) k 0 = ap length (variables_there names p at) ∙ sym (length_at names.variables k) in
    let P : ℕ → Type 0 = λ n. ExprFits n t.on k (expr_in (variables_of names p.name) names.watches e) in
    (constant_in (variables_of names p.name) names.watches e ∙ constant, process_within names s t p is both.0, subst P many fits)

variable_fits : (names : Names) (s t : Watched) (p x : Place) → IsSized names s → counter_fault names p x ≡ None → VariableFits (scope_for names t) (process_in names p) (variable_in names p x)
variable_fits names s t p x is free =
    let both = none_both (process_fault names.processes p) (variable_fault (variables_of names p.name) x) free in
    let at = known_at code.UnknownProcess names.processes p both.0 in
    let many : length (variables_of names p.name) ≡ get_or (map (λ (v : List Name). length v) names.variables) (process_in names p) 0 =
    ap length (variables_there names p at) ∙ sym (length_at names.variables (process_in names p)) in
    let P : ℕ → Type 0 = λ n. variable_in names p x < n in
    (process_within names s t p is both.0, subst P many (variable_within (variables_of names p.name) x both.1))

-- processes of two names have two numbers
numbers_apart : (names : List Name) (p q : Place) → bytes_eq p.name q.name ≡ false → process_fault names p ≡ None → process_fault names q ≡ None → number names p.name ≡ number names q.name → ⊥
numbers_apart names p q apart known other e =
    let a = known_at code.UnknownProcess names p known in
    let b = known_at code.UnknownProcess names q other in
    let same : a.at ≡ b.at = sym (found_number names p.name a.at a.found) ∙ e ∙ found_number names q.name b.at b.found in
    false≢true (sym apart ∙ (bytes_eq-Decides p.name q.name).1 (found_once names p.name q.name b.at (a.found ∙ ap Some same) b.found))

difference_fits : (names : Names) (s t : Watched) (p x q y : Place) (k : ℤ) → IsSized names s → named.DifferenceFits p q k → earlier (counter_fault names p x) (counter_fault names q y) ≡ None →
    DifferenceFits (scope_for names t) (process_in names p) (variable_in names p x) (process_in names q) (variable_in names q y) k
difference_fits names s t p x q y k is fits free =
    let both = none_both (counter_fault names p x) (counter_fault names q y) free in
    let left = none_both (process_fault names.processes p) (variable_fault (variables_of names p.name) x) both.0 in
    let right = none_both (process_fault names.processes q) (variable_fault (variables_of names q.name) y) both.1 in
    (variable_fits names s t p x is both.0, variable_fits names s t q y is both.1, numbers_apart names.processes p q fits.0 left.0 right.0, fits.1, fits.2)

operator_fits : (scope : Scope) (o : Operator) → IsTrue (is_analysed (model_operator o)) → OperatorFits scope o
operator_fits scope operator.Ef h = tt
operator_fits scope operator.Ag h = tt
operator_fits scope operator.Eg h = tt
operator_fits scope (operator.Ex p) h = absurd (false≢true h)
operator_fits scope operator.Af h = absurd (false≢true h)
operator_fits scope operator.Ax h = absurd (false≢true h)

part_sized : (names : Names) (s : Watched) (p : named.NamedPiece) → IsSized names s → part_fault names s p ≡ None → IsSized names (part_after names s p)
part_sized names s p is free = record { paired = is.paired; same = part_names names s p ∙ is.same; sized = (part_keeps names s p free).sized ∙ is.sized }

mutual
  piece_fits : (names : Names) (s t : Watched) (p : named.NamedPiece) → IsSized names s → named.PartFits p → part_fault names s p ≡ None → Keeps (part_after names s p) t → PieceFits (scope_for names t) (piece_in names p)
  piece_fits names s t (named.local None e) is fits free keeps = constant_in [] names.watches e ∙ fits
  piece_fits names s t (named.local (Some p) e) is fits free keeps = local_fits names s t p e is fits free keeps
  piece_fits names s t (named.at_most p q k) is fits free keeps =
      let both = none_both (process_fault names.processes p) (process_fault names.processes q) free in
      (process_within names s t p is both.0, process_within names s t q is both.1, fits)
  piece_fits names s t (named.at_least p q k) is fits free keeps =
      let both = none_both (process_fault names.processes p) (process_fault names.processes q) free in
      (process_within names s t p is both.0, process_within names s t q is both.1, fits)
  piece_fits names s t (named.never p q) is fits free keeps = tt
  piece_fits names s t (named.diff_at_most p x q y k) is fits free keeps = difference_fits names s t p x q y k is fits free
  piece_fits names s t (named.diff_at_least p x q y k) is fits free keeps = difference_fits names s t p x q y k is fits free
  piece_fits names s t (named.temporal o ps) is fits free keeps = (operator_fits (scope_for names t) o fits.0, operand_fits names s t ps is fits.1 free keeps)
  piece_fits names s t (named.next p ps) is fits free keeps =
      let both = none_both (process_fault names.processes p) (operand_fault names s ps) free in
      (process_within names s t p is both.0, operand_fits names s t ps is fits both.1 keeps)

  operand_fits : (names : Names) (s t : Watched) (ps : named.Pieces) → IsSized names s → named.OperandFits ps → operand_fault names s ps ≡ None → Keeps (operand_after names s ps) t → PiecesFit (scope_for names t) (pieces_in names ps)
  operand_fits names s t named.no_piece is fits free keeps = tt
  operand_fits names s t (named.and_piece p ps) is fits free keeps =
      let u = part_after names s p in
      let both = none_both (part_fault names s p) (operand_fault names u ps) free in (
        piece_fits names s t p is fits.0 both.0 (keeps_then u (operand_after names u ps) t (operand_keeps names u ps both.1) keeps),
        operand_fits names u t ps (part_sized names s p is both.0) fits.1 both.1 keeps,
      )

parts_fit : (names : Names) (s t : Watched) (ps : List named.NamedPiece) → IsSized names s → named.EachFits ps → operand_fault names s (named.pieces ps) ≡ None → Keeps (operand_after names s (named.pieces ps)) t →
    EachFits (scope_for names t) (map (piece_in names) ps)
parts_fit names s t [] is fits free keeps = tt
parts_fit names s t (p ∷ ps) is fits free keeps =
    let u = part_after names s p in
    let both = none_both (part_fault names s p) (operand_fault names u (named.pieces ps)) free in (
      piece_fits names s t p is fits.0 both.0 (keeps_then u (operand_after names u (named.pieces ps)) t (operand_keeps names u (named.pieces ps) both.1) keeps),
      parts_fit names u t ps (part_sized names s p is both.0) fits.1 both.1 keeps,
    )

pub disjuncts_fit : (names : Names) (s t : Watched) (ds : List (List named.NamedPiece)) → IsSized names s → named.AllFit ds → disjuncts_fault names s ds ≡ None → Keeps (disjuncts_after names s ds) t →
    AllFit (scope_for names t) (map (map (piece_in names)) ds)
disjuncts_fit names s t [] is fits free keeps = tt
disjuncts_fit names s t (d ∷ ds) is fits free keeps =
    let u = operand_after names s (named.pieces d) in
    let both = none_both (operand_fault names s (named.pieces d)) (disjuncts_fault names u ds) free in
    let here : IsSized names u = record { paired = is.paired; same = operand_names names s (named.pieces d) ∙ is.same; sized = (operand_keeps names s (named.pieces d) both.0).sized ∙ is.sized } in (
      parts_fit names s t d is fits.0 both.0 (keeps_then u (disjuncts_after names u ds) t (disjuncts_keep names u ds both.1) keeps),
      disjuncts_fit names u t ds here fits.1 both.1 keeps,
    )

-- ---- watches that no part names

or_both : (a b : Bool) → a || b ≡ false → (a ≡ false) × (b ≡ false)
or_both true b h = absurd (false≢true (sym h))
or_both false b h = (refl, h)

differ : (k w : ℕ) → (k == w) ≡ false → k ≡ w → ⊥
differ k w h e = search (rules, nat_tests)

put_others : (s : Watched) (ws : List Name) (i w : ℕ) (place : Place) → s.names ≡ ws → (number ws place.name == w) ≡ false → get_or (put s i place).on w None ≡ get_or s.on w None
put_others s ws i w place same other = by_place (place_of s.names place.name) refl where
  by_place : (o : Option ℕ) → place_of s.names place.name ≡ o → get_or (put s i place).on w None ≡ get_or s.on w None
  by_place None e = ap (λ o. get_or (put_at s i o).on w None) e
  by_place (Some k) e =
      let numbered : number ws place.name ≡ k = found_number ws place.name k (ap (λ l. place_of l place.name) (sym same) ∙ e) in
      ap (λ o. get_or (put_at s i o).on w None) e ∙ set_others s.on k w (Some i) (differ k w (ap (λ n. n == w) (sym numbered) ∙ other))

mutual
  expr_others : (variables ws : List Name) (i w : ℕ) (s : Watched) (e : named.Expr) → s.names ≡ ws → names_watch w (expr_in variables ws e) ≡ false →
      get_or (local_after i s (local_names e)).on w None ≡ get_or s.on w None
  expr_others variables ws i w s (named.truth value) same h = refl
  expr_others variables ws i w s (named.comparison left compare (side.Number value)) same h = refl
  expr_others variables ws i w s (named.comparison left compare (side.Variable v)) same h = refl
  expr_others variables ws i w s (named.watched name) same h = put_others s ws i w name same h
  expr_others variables ws i w s (named.negation e) same h = expr_others variables ws i w s e same h
  expr_others variables ws i w s (named.conjunction es) same h = exprs_others variables ws i w s es same h
  expr_others variables ws i w s (named.disjunction es) same h = exprs_others variables ws i w s es same h

  exprs_others : (variables ws : List Name) (i w : ℕ) (s : Watched) (es : named.Exprs) → s.names ≡ ws → some_names_watch w (exprs_in variables ws es) ≡ false →
      get_or (local_after i s (all_local_names es)).on w None ≡ get_or s.on w None
  exprs_others variables ws i w s named.no_expr same h = refl
  exprs_others variables ws i w s (named.and_expr e es) same h =
      let both = or_both (names_watch w (expr_in variables ws e)) (some_names_watch w (exprs_in variables ws es)) h in
      let u = local_after i s (local_names e) in
      ap (λ v. get_or v.on w None) (after_joined i s (local_names e) (all_local_names es))
      ∙ exprs_others variables ws i w u es (after_names i s (local_names e) ∙ same) both.1 ∙ expr_others variables ws i w s e same both.0

mutual
  part_others : (names : Names) (w : ℕ) (s : Watched) (p : named.NamedPiece) → s.names ≡ names.watches → part_names_watch w (piece_in names p) ≡ false → get_or (part_after names s p).on w None ≡ get_or s.on w None
  part_others names w s (named.local None e) same h = expr_others [] names.watches 0 w s e same h
  part_others names w s (named.local (Some p) e) same h = expr_others (variables_of names p.name) names.watches (number names.processes p.name) w s e same h
  part_others names w s (named.at_most p q k) same h = refl
  part_others names w s (named.at_least p q k) same h = refl
  part_others names w s (named.never p q) same h = refl
  part_others names w s (named.diff_at_most p x q y k) same h = refl
  part_others names w s (named.diff_at_least p x q y k) same h = refl
  part_others names w s (named.temporal o ps) same h = operand_others names w s ps same h
  part_others names w s (named.next p ps) same h = operand_others names w s ps same h

  operand_others : (names : Names) (w : ℕ) (s : Watched) (ps : named.Pieces) → s.names ≡ names.watches → operand_names_watch w (pieces_in names ps) ≡ false → get_or (operand_after names s ps).on w None ≡ get_or s.on w None
  operand_others names w s named.no_piece same h = refl
  operand_others names w s (named.and_piece p ps) same h =
      let both = or_both (part_names_watch w (piece_in names p)) (operand_names_watch w (pieces_in names ps)) h in
      operand_others names w (part_after names s p) ps (part_names names s p ∙ same) both.1 ∙ part_others names w s p same both.0

parts_others : (names : Names) (w : ℕ) (s : Watched) (ps : List named.NamedPiece) → s.names ≡ names.watches → parts_name_watch w (map (piece_in names) ps) ≡ false → get_or (operand_after names s (named.pieces ps)).on w None ≡ get_or s.on w None
parts_others names w s [] same h = refl
parts_others names w s (p ∷ ps) same h =
    let both = or_both (part_names_watch w (piece_in names p)) (parts_name_watch w (map (piece_in names) ps)) h in
    parts_others names w (part_after names s p) ps (part_names names s p ∙ same) both.1 ∙ part_others names w s p same both.0

pub disjuncts_others : (names : Names) (w : ℕ) (s : Watched) (ds : List (List named.NamedPiece)) → s.names ≡ names.watches → disjuncts_name_watch w (map (map (piece_in names)) ds) ≡ false →
    get_or (disjuncts_after names s ds).on w None ≡ get_or s.on w None
disjuncts_others names w s [] same h = refl
disjuncts_others names w s (d ∷ ds) same h =
    let both = or_both (parts_name_watch w (map (piece_in names) d)) (disjuncts_name_watch w (map (map (piece_in names)) ds)) h in
    disjuncts_others names w (operand_after names s (named.pieces d)) ds (operand_names names s (named.pieces d) ∙ same) both.1 ∙ parts_others names w s d same both.0

-- ---- counts

mutual
  part_counted : (names : Names) (p : named.NamedPiece) → made.part_count (piece_in names p) ≡ named.part_count p
  part_counted names (named.local None e) = refl
  part_counted names (named.local (Some p) e) = refl
  part_counted names (named.at_most p q k) = refl
  part_counted names (named.at_least p q k) = refl
  part_counted names (named.never p q) = refl
  part_counted names (named.diff_at_most p x q y k) = refl
  part_counted names (named.diff_at_least p x q y k) = refl
  part_counted names (named.temporal o ps) = ap (λ n. 1 + n) (operand_counted names ps)
  part_counted names (named.next p ps) = ap (λ n. 1 + n) (operand_counted names ps)

  operand_counted : (names : Names) (ps : named.Pieces) → made.operand_count (pieces_in names ps) ≡ named.operand_count ps
  operand_counted names named.no_piece = refl
  operand_counted names (named.and_piece p ps) = rw (part_counted names p, operand_counted names ps) refl

parts_counted : (names : Names) (ps : List named.NamedPiece) → made.parts_count (map (piece_in names) ps) ≡ named.parts_count ps
parts_counted names [] = refl
parts_counted names (p ∷ ps) = rw (part_counted names p, parts_counted names ps) refl

pub disjuncts_counted : (names : Names) (ds : List (List named.NamedPiece)) → made.disjuncts_count (map (map (piece_in names)) ds) ≡ named.disjuncts_count ds
disjuncts_counted names [] = refl
disjuncts_counted names (d ∷ ds) = rw (parts_counted names d, disjuncts_counted names ds) refl
