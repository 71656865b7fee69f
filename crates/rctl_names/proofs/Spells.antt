-- The parts with numbers spell the formulas of the parts with names, and their numbers are there.
use Rattle.std.proofs.Common.{◌≡◌, ℕ, ℤ, IsTrue, true, List, [], ◌∷◌, map, get_or, Option, None, Some, sym, ap, refl, ◌∙◌, subst}
use Rattle.std.proofs.lemmas.Bool.{and_parts, false≢true}
use Rattle.run_model.specs.Run.{Name}
use Rattle.run_model.specs.Formula as model
use Rattle.run_model.specs.Class.{is_analysed}
use Rattle.log_lines.specs.Names.{place_of}
use Rattle.rctl_grammar.specs.declared.fault.FormulaCode.{FormulaCode}
use Rattle.rctl_grammar.specs.declared.fault.FormulaCode.TheVariants as code
use Rattle.rctl_grammar.specs.declared.tree.Operator.{Operator}
use Rattle.rctl_grammar.specs.declared.tree.Operator.TheVariants as operator
use Rattle.rctl_grammar.specs.declared.tree.Place.{Place}
use Rattle.rctl_grammar.specs.Shape.{relation_of, model_operator}
use Rattle.rctl_parts.specs.Spelled as spelled
use Rattle.rctl_parts.specs.Spelled.{Names, numbered_name, variable_at, formula_in, formulas_in, operated, formula_of, formulas_of}
use Rattle.rctl_class.specs.declared.named.NamedSide.{NamedSide}
use Rattle.rctl_class.specs.declared.named.NamedSide.TheVariants as side
use Rattle.rctl_class.specs.Uses.{earlier}
use Rattle.rctl_class.specs.NamedParts as named
use Rattle.rctl_class.specs.NamedParts.{side_formula, expr_formula, expr_formulas, part_formula, part_formulas, name_on}
use Rattle.rctl_class.proofs.Alike.{none_both}
use Rattle.rctl_names.specs.Numbers.{number, variables_of, variables_at}
use Rattle.rctl_names.specs.inside.Numbers.{Watched, variable_fault, process_fault, watch_fault}
use Rattle.rctl_names.specs.inside.Numbers.{watch_fault_at, unless_known, side_names, local_names}
use Rattle.rctl_names.specs.inside.Numbers.{all_local_names, local_fault, local_after}
use Rattle.rctl_names.specs.inside.Numbers.{counter_fault, part_fault, operand_fault, part_after}
use Rattle.rctl_names.specs.inside.Numbers.{operand_after, disjuncts_fault}
use Rattle.rctl_names.specs.Resolving.{side_in, expr_in, exprs_in, process_in, variable_in}
use Rattle.rctl_names.specs.Resolving.{piece_in, pieces_in}
use Rattle.rctl_names.proofs.Lookups.{found_there, found_number}
use Rattle.rctl_names.proofs.Joined.{after_names, part_names, operand_names, fault_joined}

-- a number that was found
pub record IsAt (names : List Name) (name : Name) : Type 0 where
  pub at : ℕ
  pub found : place_of names name ≡ Some at

pub known_at : (c : FormulaCode) (names : List Name) (place : Place) → unless_known c place (place_of names place.name) ≡ None → IsAt names place.name
known_at c names place h = by_place (place_of names place.name) refl h where
  by_place : (o : Option ℕ) → place_of names place.name ≡ o → unless_known c place o ≡ None → IsAt names place.name
  by_place None e k = absurd (cc)
  by_place (Some n) e k = record { at = n; found = e }

pub watch_known : (s : Watched) (p : ℕ) (place : Place) → watch_fault s p place ≡ None → IsAt s.names place.name
watch_known s p place h = by_place (place_of s.names place.name) refl h where
  by_place : (o : Option ℕ) → place_of s.names place.name ≡ o → watch_fault_at s p place o ≡ None → IsAt s.names place.name
  by_place None e k = absurd (cc)
  by_place (Some n) e k = record { at = n; found = e }

pub named_back : (names : List Name) (name : Name) → IsAt names name → numbered_name names (number names name) ≡ name
named_back names name is = ap (λ k. get_or names k []) (found_number names name is.at is.found) ∙ found_there names name is.at is.found

-- ---- expressions

side_spelled : (variables : List Name) (p : Name) (k : ℕ) (s : Watched) (right : NamedSide) → local_fault variables k s (side_names right) ≡ None →
    spelled.side_in variables p (side_in variables right) ≡ side_formula p right
side_spelled variables p k s (side.Number value) h = refl
side_spelled variables p k s (side.Variable v) h =
    ap (model.Variable p) (named_back variables v.name (known_at code.UnknownVariable variables v (none_both (variable_fault variables v) None h).0))

mutual
  expr_spelled : (variables watches : List Name) (p : Name) (k : ℕ) (s : Watched) (e : named.Expr) → s.names ≡ watches → local_fault variables k s (local_names e) ≡ None →
      formula_in variables watches p (expr_in variables watches e) ≡ expr_formula p e
  expr_spelled variables watches p k s (named.truth value) same free = refl
  expr_spelled variables watches p k s (named.comparison left compare right) same free =
      let both = none_both (variable_fault variables left) (local_fault variables k s (side_names right)) free in
      ap (λ name. model.Comparison p name (relation_of compare) (spelled.side_in variables p (side_in variables right))) (named_back variables left.name (known_at code.UnknownVariable variables left both.0))
      ∙ ap (model.Comparison p left.name (relation_of compare)) (side_spelled variables p k s right both.1)
  expr_spelled variables watches p k s (named.watched name) same free =
      let is = watch_known s k name (none_both (watch_fault s k name) None free).0 in
      let P : List Name → Type 0 = λ ws. numbered_name ws (number ws name.name) ≡ name.name in
      ap (model.Watched p) (subst P same (named_back s.names name.name is))
  expr_spelled variables watches p k s (named.negation e) same free = ap model.Not (expr_spelled variables watches p k s e same free)
  expr_spelled variables watches p k s (named.conjunction es) same free = ap model.And (exprs_spelled variables watches p k s es same free)
  expr_spelled variables watches p k s (named.disjunction es) same free = ap model.Or (exprs_spelled variables watches p k s es same free)

  exprs_spelled : (variables watches : List Name) (p : Name) (k : ℕ) (s : Watched) (es : named.Exprs) → s.names ≡ watches → local_fault variables k s (all_local_names es) ≡ None →
      formulas_in variables watches p (exprs_in variables watches es) ≡ expr_formulas p es
  exprs_spelled variables watches p k s named.no_expr same free = refl
  exprs_spelled variables watches p k s (named.and_expr e es) same free =
      let both = none_both (local_fault variables k s (local_names e)) (local_fault variables k (local_after k s (local_names e)) (all_local_names es))
      (sym (fault_joined variables k s (local_names e) (all_local_names es)) ∙ free) in
      ap (λ f. model.Cons f (formulas_in variables watches p (exprs_in variables watches es))) (expr_spelled variables watches p k s e same both.0)
      ∙ ap (model.Cons (expr_formula p e)) (exprs_spelled variables watches p k (local_after k s (local_names e)) es (after_names k s (local_names e) ∙ same) both.1)

-- a constant spells the same over every process
mutual
  constant_spelled : (variables others watches : List Name) (p : Name) (e : named.Expr) → named.is_constant e ≡ true → formula_in variables others p (expr_in [] watches e) ≡ expr_formula p e
  constant_spelled variables others watches p (named.truth value) h = refl
  constant_spelled variables others watches p (named.comparison left compare right) h = absurd (false≢true h)
  constant_spelled variables others watches p (named.watched name) h = absurd (false≢true h)
  constant_spelled variables others watches p (named.negation e) h = ap model.Not (constant_spelled variables others watches p e h)
  constant_spelled variables others watches p (named.conjunction es) h = ap model.And (constants_spelled variables others watches p es h)
  constant_spelled variables others watches p (named.disjunction es) h = ap model.Or (constants_spelled variables others watches p es h)

  constants_spelled : (variables others watches : List Name) (p : Name) (es : named.Exprs) → named.are_constant es ≡ true → formulas_in variables others p (exprs_in [] watches es) ≡ expr_formulas p es
  constants_spelled variables others watches p named.no_expr h = refl
  constants_spelled variables others watches p (named.and_expr e es) h =
      let both = and_parts (named.is_constant e) (named.are_constant es) h in
      ap (λ f. model.Cons f (formulas_in variables others p (exprs_in [] watches es))) (constant_spelled variables others watches p e both.0)
      ∙ ap (model.Cons (expr_formula p e)) (constants_spelled variables others watches p es both.1)

constant_over_none : (watches : List Name) (e : named.Expr) → named.is_constant e ≡ true → formula_in [] [] [] (expr_in [] watches e) ≡ expr_formula [] e
constant_over_none watches e h = constant_spelled [] [] watches [] e h

-- ---- parts

process_named : (names : Names) (p : Place) → process_fault names.processes p ≡ None → numbered_name names.processes (number names.processes p.name) ≡ p.name
process_named names p h = named_back names.processes p.name (known_at code.UnknownProcess names.processes p h)

-- the variables of a process that was found
pub variables_there : (names : Names) (p : Place) (is : IsAt names.processes p.name) → variables_of names p.name ≡ get_or names.variables (number names.processes p.name) []
variables_there names p is = ap (variables_at names.variables) is.found ∙ ap (λ k. get_or names.variables k []) (sym (found_number names.processes p.name is.at is.found))

local_spelled : (names : Names) (s : Watched) (p : Place) (e : named.Expr) → s.names ≡ names.watches → part_fault names s (named.local (Some p) e) ≡ None →
    formula_of names (piece_in names (named.local (Some p) e)) ≡ part_formula (named.local (Some p) e)
local_spelled names s p e same free =
    let both = none_both (process_fault names.processes p) (local_fault (variables_of names p.name) (number names.processes p.name) s (local_names e)) free in
    let is = known_at code.UnknownProcess names.processes p both.0 in
    ap (λ v. formula_in v names.watches (numbered_name names.processes (number names.processes p.name)) (expr_in (variables_of names p.name) names.watches e)) (sym (variables_there names p is))
    ∙ ap (λ n. formula_in (variables_of names p.name) names.watches n (expr_in (variables_of names p.name) names.watches e)) (process_named names p both.0)
    ∙ expr_spelled (variables_of names p.name) names.watches p.name (number names.processes p.name) s e same both.1

channel_spelled : (names : Names) (p q : Place) (relation : model.Relation) (k : ℕ) → earlier (process_fault names.processes p) (process_fault names.processes q) ≡ None →
    model.InTransit (numbered_name names.processes (number names.processes p.name)) (numbered_name names.processes (number names.processes q.name)) relation k ≡ model.InTransit p.name q.name relation k
channel_spelled names p q relation k free =
    let both = none_both (process_fault names.processes p) (process_fault names.processes q) free in
    ap (λ n. model.InTransit n (numbered_name names.processes (number names.processes q.name)) relation k) (process_named names p both.0)
    ∙ ap (λ n. model.InTransit p.name n relation k) (process_named names q both.1)

variable_named : (names : Names) (p x : Place) → counter_fault names p x ≡ None → variable_at names (process_in names p) (variable_in names p x) ≡ x.name
variable_named names p x free =
    let both = none_both (process_fault names.processes p) (variable_fault (variables_of names p.name) x) free in
    ap (λ v. numbered_name v (variable_in names p x)) (sym (variables_there names p (known_at code.UnknownProcess names.processes p both.0)))
    ∙ named_back (variables_of names p.name) x.name (known_at code.UnknownVariable (variables_of names p.name) x both.1)

difference_spelled : (names : Names) (p x q y : Place) (relation : model.Relation) (k : ℤ) → earlier (counter_fault names p x) (counter_fault names q y) ≡ None →
    model.Difference (numbered_name names.processes (process_in names p)) (variable_at names (process_in names p) (variable_in names p x)) (numbered_name names.processes (process_in names q))
    (variable_at names (process_in names q) (variable_in names q y)) relation k ≡ model.Difference p.name x.name q.name y.name relation k
difference_spelled names p x q y relation k free =
    let both = none_both (counter_fault names p x) (counter_fault names q y) free in
    let left = none_both (process_fault names.processes p) (variable_fault (variables_of names p.name) x) both.0 in
    let right = none_both (process_fault names.processes q) (variable_fault (variables_of names q.name) y) both.1 in
    rw (process_named names p left.0, variable_named names p x both.0, process_named names q right.0, variable_named names q y both.1) refl

-- an operator that is analysed is none of a process's number
analysed_operated : (names : Names) (o : Operator) (f : model.Formula) → IsTrue (is_analysed (model_operator o)) → operated names o f ≡ model.Temporal (model_operator o) f
analysed_operated names operator.Ef f h = refl
analysed_operated names operator.Ag f h = refl
analysed_operated names operator.Eg f h = refl
analysed_operated names (operator.Ex p) f h = absurd (false≢true h)
analysed_operated names operator.Af f h = absurd (false≢true h)
analysed_operated names operator.Ax f h = absurd (false≢true h)

mutual
  pub piece_spelled : (names : Names) (s : Watched) (p : named.NamedPiece) → s.names ≡ names.watches → named.PartFits p → part_fault names s p ≡ None → formula_of names (piece_in names p) ≡ part_formula p
  piece_spelled names s (named.local None e) same fits free = constant_over_none names.watches e fits
  piece_spelled names s (named.local (Some p) e) same fits free = local_spelled names s p e same free
  piece_spelled names s (named.at_most p q k) same fits free = channel_spelled names p q model.LessOrEqual k free
  piece_spelled names s (named.at_least p q k) same fits free = channel_spelled names p q model.GreaterOrEqual k free
  piece_spelled names s (named.never p q) same fits free = refl
  piece_spelled names s (named.diff_at_most p x q y k) same fits free = difference_spelled names p x q y model.LessOrEqual k free
  piece_spelled names s (named.diff_at_least p x q y k) same fits free = difference_spelled names p x q y model.GreaterOrEqual k free
  piece_spelled names s (named.temporal o ps) same fits free =
      analysed_operated names o (model.And (formulas_of names (pieces_in names ps))) fits.0
      ∙ ap (λ fs. model.Temporal (model_operator o) (model.And fs)) (operand_spelled names s ps same fits.1 free)
  piece_spelled names s (named.next p ps) same fits free =
      let both = none_both (process_fault names.processes p) (operand_fault names s ps) free in
      ap (λ n. model.Next n (model.And (formulas_of names (pieces_in names ps)))) (process_named names p both.0)
      ∙ ap (λ fs. model.Next p.name (model.And fs)) (operand_spelled names s ps same fits both.1)

  operand_spelled : (names : Names) (s : Watched) (ps : named.Pieces) → s.names ≡ names.watches → named.OperandFits ps → operand_fault names s ps ≡ None → formulas_of names (pieces_in names ps) ≡ part_formulas ps
  operand_spelled names s named.no_piece same fits free = refl
  operand_spelled names s (named.and_piece p ps) same fits free =
      let both = none_both (part_fault names s p) (operand_fault names (part_after names s p) ps) free in
      ap (λ f. model.Cons f (formulas_of names (pieces_in names ps))) (piece_spelled names s p same fits.0 both.0)
      ∙ ap (model.Cons (part_formula p)) (operand_spelled names (part_after names s p) ps (part_names names s p ∙ same) fits.1 both.1)

parts_spelled : (names : Names) (s : Watched) (ps : List named.NamedPiece) → s.names ≡ names.watches → named.EachFits ps → operand_fault names s (named.pieces ps) ≡ None →
    map (formula_of names) (map (piece_in names) ps) ≡ map part_formula ps
parts_spelled names s [] same fits free = refl
parts_spelled names s (p ∷ ps) same fits free =
    let both = none_both (part_fault names s p) (operand_fault names (part_after names s p) (named.pieces ps)) free in
    ap (λ f. f ∷ map (formula_of names) (map (piece_in names) ps)) (piece_spelled names s p same fits.0 both.0)
    ∙ ap (λ fs. part_formula p ∷ fs) (parts_spelled names (part_after names s p) ps (part_names names s p ∙ same) fits.1 both.1)

pub disjuncts_spelled : (names : Names) (s : Watched) (ds : List (List named.NamedPiece)) → s.names ≡ names.watches → named.AllFit ds → disjuncts_fault names s ds ≡ None →
    map (map (formula_of names)) (map (map (piece_in names)) ds) ≡ map (map part_formula) ds
disjuncts_spelled names s [] same fits free = refl
disjuncts_spelled names s (d ∷ ds) same fits free =
    let both = none_both (operand_fault names s (named.pieces d)) (disjuncts_fault names (operand_after names s (named.pieces d)) ds) free in
    ap (λ f. f ∷ map (map (formula_of names)) (map (map (piece_in names)) ds)) (parts_spelled names s d same fits.0 both.0)
    ∙ ap (λ fs. map part_formula d ∷ fs) (disjuncts_spelled names (operand_after names s (named.pieces d)) ds (operand_names names s (named.pieces d) ∙ same) fits.1 both.1)
