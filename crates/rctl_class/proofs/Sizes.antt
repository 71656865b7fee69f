-- How many parts and disjuncts a formula has, and that each part is such as it has to be.
use Rattle.std.proofs.Common.{◌≡◌, ℕ, zero, suc, ◌+◌, ◌*◌, ◌<◌, ◌≤◌, ◌^◌, ℤ, pos, neg_ℤ, ◌≤ℤ◌, ◌<ℤ◌, int_le, int_lt, bytes_eq, Bool, true, false, not, ◌&&◌, IsTrue, List, [], ◌∷◌, ◌++◌, length, Option, None, Some, if◌then◌else◌, sym, ap, refl, ◌∙◌, arith, length-append, inl, inr, subst}
use Rattle.std.proofs.lemmas.Bool.{cases_Bool, and_parts, false≢true}
use Rattle.std.proofs.lemmas.Int.{ints}
use Rattle.run_model.specs.Run.{Name}
use Rattle.run_model.specs.Formula as model
use Rattle.run_model.specs.Class.{is_plain, all_plain, processes, all_processes, is_local, is_analysed, after_sign, are_bounded, is_wide, all_wide, has_two}
use Rattle.rctl_grammar.specs.declared.tree.Operator.{Operator}
use Rattle.rctl_grammar.specs.declared.tree.Operator.TheVariants as operator
use Rattle.rctl_grammar.specs.declared.tree.Place.{Place}
use Rattle.rctl_grammar.specs.declared.tree.Atom.{Atom}
use Rattle.rctl_grammar.specs.declared.tree.Atom.TheVariants as atom
use Rattle.rctl_grammar.specs.Shape.{relation_of, model_operator}
use Rattle.rctl_class.specs.Nodes.{Node, Nodes, leaf, negation, conjunction, disjunction, under, stepping, until_of, none, more, formula_of, formulas_of, is_small, counts_fit, all_counts_fit, node_count, nodes_count, IsWithinLimits}
use Rattle.rctl_class.specs.Uses.{uses_of, all_uses}
use Rattle.rctl_class.specs.Faults.{first_fault, first_of, operator_fault}
use Rattle.rctl_class.specs.NamedParts as named
use Rattle.rctl_class.specs.NamedParts.{NamedPiece, Pieces, pieces, is_constant, are_constant, has_no_place, PartFits, OperandFits, EachFits, AllFit, part_count, operand_count, parts_count, disjuncts_count, AreDisjuncts}
use Rattle.rctl_class.specs.Walk as walk
use Rattle.rctl_class.specs.Walk.{first_place, expr_from, exprs_from, signed, local_part, bounds}
use Rattle.rctl_class.specs.Walk.{difference_bounds, next_count, fewer_than, channel_parts}
use Rattle.rctl_class.specs.Walk.{or_local, or_one_local, parts_from, disjuncts_from}
use Rattle.rctl_class.specs.inside.Walk.{is_over, all_over}
use Rattle.rctl_class.specs.Classed.{IsClassed}
use Rattle.rctl_class.proofs.Locals.{option_name, local_parts, local_disjuncts}
use Rattle.rctl_class.proofs.Members.{or_else, first_joined}
use Rattle.rctl_class.proofs.Alike.{local_is_over, none_both, not_negative, count_below, next_exact, if_bounded, bounded, disjuncts_alike}
use Rattle.rctl_class.proofs.Counters.{disjuncts_have}
use Rattle.rctl_class.proofs.Names.{disjuncts_names}

-- ---- parts fit

no_place_joined : (a b : Option Place) → has_no_place (or_else a b) ≡ has_no_place a && has_no_place b
no_place_joined None b = refl
no_place_joined (Some p) b = refl

mutual
  constant_expr : (q : Option Name) (n : Node) → is_over q n ≡ true → is_constant (expr_from n) ≡ has_no_place (first_place (uses_of n))
  constant_expr q (leaf (atom.Truth value) at) h = refl
  constant_expr q (leaf (atom.Local p v compare right) at) h = refl
  constant_expr q (leaf (atom.Watch p w) at) h = refl
  constant_expr q (leaf (atom.InTransit p r compare k) at) h = absurd (false≢true h)
  constant_expr q (leaf (atom.Empty p r) at) h = absurd (false≢true h)
  constant_expr q (leaf (atom.Difference p x r y compare k) at) h = absurd (false≢true h)
  constant_expr q (negation n at) h = constant_expr q n h
  constant_expr q (conjunction ns at) h = constant_exprs q ns h
  constant_expr q (disjunction ns at) h = constant_exprs q ns h
  constant_expr q (under o n at) h = absurd (false≢true h)
  constant_expr q (stepping process n at) h = absurd (false≢true h)
  constant_expr q (until_of all left right at) h = absurd (false≢true h)

  constant_exprs : (q : Option Name) (ns : Nodes) → all_over q ns ≡ true → are_constant (exprs_from ns) ≡ has_no_place (first_place (all_uses ns))
  constant_exprs q none h = refl
  constant_exprs q (more n ns) h =
      let both = and_parts (is_over q n) (all_over q ns) h in
      rw (constant_expr q n both.0, constant_exprs q ns both.1)
      (sym (ap has_no_place (first_joined (uses_of n) (all_uses ns)) ∙ no_place_joined (first_place (uses_of n)) (first_place (all_uses ns))))

constant_signed : (sign : Bool) (e : named.Expr) → is_constant (signed sign e) ≡ is_constant e
constant_signed true e = refl
constant_signed false e = refl

local_fits : (sign : Bool) (n : Node) → is_local (formula_of n) ≡ true → EachFits (parts_from sign n)
local_fits sign n h = rw (local_parts sign n h)
    (constant_signed sign (expr_from n) ∙ constant_expr (option_name (first_place (uses_of n))) n (local_is_over n h), tt)

bounds_fit : (p q : Place) (relation : model.Relation) (k : ℕ) → k < 2 ^ 63 → EachFits (bounds p q relation k)
bounds_fit p q model.Equal k fits = (omega arith, (omega arith, tt))
bounds_fit p q model.Unequal k fits = tt
bounds_fit p q model.Less zero fits = (tt, tt)
bounds_fit p q model.Less (suc k) fits = (omega arith, tt)
bounds_fit p q model.LessOrEqual k fits = (omega arith, tt)
bounds_fit p q model.Greater k fits = (rw (next_exact k fits) (omega arith), tt)
bounds_fit p q model.GreaterOrEqual k fits = (omega arith, tt)

small_within : (k : ℤ) → is_small k ≡ true → (neg_ℤ (pos (2 ^ 63)) ≤ℤ k) × (k <ℤ pos (2 ^ 63))
small_within k h =
    let both = and_parts (int_le (neg_ℤ (pos (2 ^ 63))) k) (int_lt k (pos (2 ^ 63))) h in
    let low = both.0 in
    let high = both.1 in
    (grind (arith, ints, low), grind (arith, ints, high))

differences_fit : (p x q y : Place) (relation : model.Relation) (k : ℤ) → bytes_eq p.name q.name ≡ false → neg_ℤ (pos (2 ^ 63)) ≤ℤ k → k <ℤ pos (2 ^ 63)
    → EachFits (difference_bounds p x q y relation k)
differences_fit p x q y model.Equal k apart low high =
    ((apart, omega (arith, ints), omega (arith, ints)), ((apart, omega (arith, ints), omega (arith, ints)), tt))
differences_fit p x q y model.Unequal k apart low high = tt
differences_fit p x q y model.Less k apart low high = ((apart, omega (arith, ints), omega (arith, ints)), tt)
differences_fit p x q y model.LessOrEqual k apart low high = ((apart, omega (arith, ints), omega (arith, ints)), tt)
differences_fit p x q y model.Greater k apart low high = ((apart, omega (arith, ints), omega (arith, ints)), tt)
differences_fit p x q y model.GreaterOrEqual k apart low high = ((apart, omega (arith, ints), omega (arith, ints)), tt)

each_fits_joined : (ps qs : List NamedPiece) → EachFits ps → EachFits qs → EachFits (ps ++ qs)
each_fits_joined [] qs a b = b
each_fits_joined (p ∷ ps) qs a b = (a.0, each_fits_joined ps qs a.1 b)

all_fit_joined : (ds es : List (List NamedPiece)) → AllFit ds → AllFit es → AllFit (ds ++ es)
all_fit_joined [] es a b = b
all_fit_joined (d ∷ ds) es a b = (a.0, all_fit_joined ds es a.1 b)

operand_fits : (ps : List NamedPiece) → EachFits ps → OperandFits (pieces ps)
operand_fits [] h = tt
operand_fits (p ∷ ps) h = (h.0, operand_fits ps h.1)

analysed : (o : Operator) (at : ℕ) → operator_fault true o at ≡ None → IsTrue (is_analysed (model_operator o))
analysed operator.Ef at h = refl
analysed operator.Ag at h = refl
analysed operator.Eg at h = refl
analysed (operator.Ex process) at h = absurd (cc)
analysed operator.Af at h = absurd (cc)
analysed operator.Ax at h = absurd (cc)

mutual
  unfolding is_plain all_plain processes all_processes

  parts_fit : (sign : Bool) (n : Node) → counts_fit n ≡ true → first_fault true sign n ≡ None → EachFits (parts_from sign n)
  parts_fit sign (leaf (atom.Truth value) at) fits free = local_fits sign (leaf (atom.Truth value) at) refl
  parts_fit sign (leaf (atom.Local p v compare right) at) fits free = elim (cases_Bool (is_local (formula_of (leaf (atom.Local p v compare right) at)))) [
    | inl h ↦ local_fits sign (leaf (atom.Local p v compare right) at) h
    | inr h ↦ absurd (let bad = rw h at free in cc)
  ]
  parts_fit sign (leaf (atom.Watch p w) at) fits free = local_fits sign (leaf (atom.Watch p w) at) refl
  parts_fit sign (leaf (atom.InTransit p q compare k) at) fits free = bounds_fit p q (after_sign sign (relation_of compare)) k (count_below k fits)
  parts_fit true (leaf (atom.Empty p q) at) fits free = (omega arith, tt)
  parts_fit false (leaf (atom.Empty p q) at) fits free = (omega arith, tt)
  parts_fit sign (leaf (atom.Difference p x q y compare k) at) fits free =
      let are = bounded sign p.name q.name (relation_of compare) (if_bounded (are_bounded sign p.name q.name (relation_of compare)) _ free) in
      let within = small_within k fits in
      differences_fit p x q y (after_sign sign (relation_of compare)) k are.0 within.0 within.1
  parts_fit sign (negation n at) fits free = elim (cases_Bool (is_local (formula_of (negation n at)))) [
    | inl h ↦ local_fits sign (negation n at) h
    | inr h ↦ rw h (parts_fit (not sign) n fits (rw h at free))
  ]
  parts_fit true (conjunction ns at) fits free = elim (cases_Bool (is_local (formula_of (conjunction ns at)))) [
    | inl h ↦ local_fits true (conjunction ns at) h
    | inr h ↦ rw h (all_parts_fit true ns fits (rw h at free))
  ]
  parts_fit false (conjunction ns at) fits free = elim (cases_Bool (is_local (formula_of (conjunction ns at)))) [
    | inl h ↦ local_fits false (conjunction ns at) h
    | inr h ↦ absurd (let bad = rw h at free in cc)
  ]
  parts_fit true (disjunction ns at) fits free = elim (cases_Bool (is_local (formula_of (disjunction ns at)))) [
    | inl h ↦ local_fits true (disjunction ns at) h
    | inr h ↦ absurd (let bad = rw h at free in cc)
  ]
  parts_fit false (disjunction ns at) fits free = elim (cases_Bool (is_local (formula_of (disjunction ns at)))) [
    | inl h ↦ local_fits false (disjunction ns at) h
    | inr h ↦ rw h (all_parts_fit false ns fits (rw h at free))
  ]
  parts_fit true (under o n at) fits free =
      let both = none_both (operator_fault true o at) (first_fault true true n) free in
      ((analysed o at both.0, operand_fits (parts_from true n) (parts_fit true n fits both.1)), tt)
  parts_fit false (under o n at) fits free = absurd (not_negative o at (none_both (operator_fault false o at) (first_fault true true n) free).0)
  parts_fit true (stepping process n at) fits free = (operand_fits (parts_from true n) (parts_fit true n fits free), tt)
  parts_fit false (stepping process n at) fits free = absurd (cc)
  parts_fit sign (until_of all left right at) fits free = absurd (cc)

  all_parts_fit : (sign : Bool) (ns : Nodes) → all_counts_fit ns ≡ true → first_of true sign ns ≡ None → EachFits (walk.all_parts sign ns)
  all_parts_fit sign none fits free = tt
  all_parts_fit sign (more n ns) fits free =
      let both = and_parts (counts_fit n) (all_counts_fit ns) fits in
      let frees = none_both (first_fault true sign n) (first_of true sign ns) free in
      each_fits_joined (parts_from sign n) (walk.all_parts sign ns) (parts_fit sign n both.0 frees.0) (all_parts_fit sign ns both.1 frees.1)

local_disjuncts_fit : (sign : Bool) (n : Node) → is_local (formula_of n) ≡ true → AllFit (disjuncts_from sign n)
local_disjuncts_fit sign n h = rw (local_disjuncts sign n h) (let fits = local_fits sign n h in rw (local_parts sign n h) at fits, tt)

mutual
  unfolding is_plain all_plain processes all_processes

  disjuncts_fit : (sign : Bool) (n : Node) → counts_fit n ≡ true → first_fault false sign n ≡ None → AllFit (disjuncts_from sign n)
  disjuncts_fit sign (leaf a at) fits free = (parts_fit sign (leaf a at) fits free, tt)
  disjuncts_fit sign (negation n at) fits free = elim (cases_Bool (is_local (formula_of (negation n at)))) [
    | inl h ↦ local_disjuncts_fit sign (negation n at) h
    | inr h ↦ rw h (disjuncts_fit (not sign) n fits (rw h at free))
  ]
  disjuncts_fit true (conjunction ns at) fits free = (parts_fit true (conjunction ns at) fits free, tt)
  disjuncts_fit false (conjunction ns at) fits free = elim (cases_Bool (is_local (formula_of (conjunction ns at)))) [
    | inl h ↦ local_disjuncts_fit false (conjunction ns at) h
    | inr h ↦ rw h (all_disjuncts_fit false ns fits (rw h at free))
  ]
  disjuncts_fit true (disjunction ns at) fits free = elim (cases_Bool (is_local (formula_of (disjunction ns at)))) [
    | inl h ↦ local_disjuncts_fit true (disjunction ns at) h
    | inr h ↦ rw h (all_disjuncts_fit true ns fits (rw h at free))
  ]
  disjuncts_fit false (disjunction ns at) fits free = (parts_fit false (disjunction ns at) fits free, tt)
  disjuncts_fit sign (under o n at) fits free = (parts_fit sign (under o n at) fits free, tt)
  disjuncts_fit sign (stepping process n at) fits free = (parts_fit sign (stepping process n at) fits free, tt)
  disjuncts_fit sign (until_of all left right at) fits free = absurd (cc)

  all_disjuncts_fit : (sign : Bool) (ns : Nodes) → all_counts_fit ns ≡ true → first_of false sign ns ≡ None → AllFit (walk.all_disjuncts sign ns)
  all_disjuncts_fit sign none fits free = tt
  all_disjuncts_fit sign (more n ns) fits free =
      let both = and_parts (counts_fit n) (all_counts_fit ns) fits in
      let frees = none_both (first_fault false sign n) (first_of false sign ns) free in
      all_fit_joined (disjuncts_from sign n) (walk.all_disjuncts sign ns) (disjuncts_fit sign n both.0 frees.0) (all_disjuncts_fit sign ns both.1 frees.1)

-- ---- counts

a_node : (n : Node) → 1 ≤ node_count n
a_node (leaf a at) = omega arith
a_node (negation n at) = omega arith
a_node (conjunction ns at) = omega arith
a_node (disjunction ns at) = omega arith
a_node (under o n at) = omega arith
a_node (stepping process n at) = omega arith
a_node (until_of all left right at) = omega arith

parts_count_joined : (ps qs : List NamedPiece) → parts_count (ps ++ qs) ≡ parts_count ps + parts_count qs
parts_count_joined [] qs = omega arith
parts_count_joined (p ∷ ps) qs = omega (arith, parts_count_joined ps qs)

disjuncts_count_joined : (ds es : List (List NamedPiece)) → disjuncts_count (ds ++ es) ≡ disjuncts_count ds + disjuncts_count es
disjuncts_count_joined [] es = omega arith
disjuncts_count_joined (d ∷ ds) es = omega (arith, disjuncts_count_joined ds es)

operand_counted : (ps : List NamedPiece) → operand_count (pieces ps) ≡ parts_count ps
operand_counted [] = refl
operand_counted (p ∷ ps) = ap (λ k. part_count p + k) (operand_counted ps)

channel_few : (sign : Bool) (a : Atom) → parts_count (channel_parts sign a) ≤ 2
channel_few sign (atom.Truth value) = omega arith
channel_few sign (atom.Local p v compare right) = omega arith
channel_few sign (atom.Watch p w) = omega arith
channel_few sign (atom.InTransit p q compare k) = bounds_few (after_sign sign (relation_of compare)) k where
  bounds_few : (relation : model.Relation) (k : ℕ) → parts_count (bounds p q relation k) ≤ 2
  bounds_few model.Equal k = omega arith
  bounds_few model.Unequal k = omega arith
  bounds_few model.Less zero = omega arith
  bounds_few model.Less (suc k) = omega arith
  bounds_few model.LessOrEqual k = omega arith
  bounds_few model.Greater k = omega arith
  bounds_few model.GreaterOrEqual k = omega arith
channel_few true (atom.Empty p q) = omega arith
channel_few false (atom.Empty p q) = omega arith
channel_few sign (atom.Difference p x q y compare k) = differences_few (after_sign sign (relation_of compare)) where
  differences_few : (relation : model.Relation) → parts_count (difference_bounds p x q y relation k) ≤ 2
  differences_few model.Equal = omega arith
  differences_few model.Unequal = omega arith
  differences_few model.Less = omega arith
  differences_few model.LessOrEqual = omega arith
  differences_few model.Greater = omega arith
  differences_few model.GreaterOrEqual = omega arith

or_local_few : (sign : Bool) (n : Node) (others : List NamedPiece) → parts_count others ≤ 2 * node_count n → parts_count (or_local sign n others) ≤ 2 * node_count n
or_local_few sign n others few = elim (is_local (formula_of n)) as (λ b. parts_count (if b then local_part sign n ∷ [] else others) ≤ 2 * node_count n)
    [ true ↦ omega (arith, a_node n) | false ↦ few ]

mutual
  parts_few : (sign : Bool) (n : Node) → parts_count (parts_from sign n) ≤ 2 * node_count n
  parts_few sign (leaf a at) = or_local_few sign (leaf a at) (channel_parts sign a) (omega (arith, channel_few sign a))
  parts_few sign (negation n at) = or_local_few sign (negation n at) (parts_from (not sign) n) (omega (arith, parts_few (not sign) n))
  parts_few true (conjunction ns at) = or_local_few true (conjunction ns at) (walk.all_parts true ns) (omega (arith, all_parts_few true ns))
  parts_few false (conjunction ns at) = or_local_few false (conjunction ns at) [] (omega arith)
  parts_few true (disjunction ns at) = or_local_few true (disjunction ns at) [] (omega arith)
  parts_few false (disjunction ns at) = or_local_few false (disjunction ns at) (walk.all_parts false ns) (omega (arith, all_parts_few false ns))
  parts_few sign (under o n at) = omega (arith, operand_counted (parts_from true n), parts_few true n)
  parts_few sign (stepping process n at) = omega (arith, operand_counted (parts_from true n), parts_few true n)
  parts_few sign (until_of all left right at) = omega arith

  all_parts_few : (sign : Bool) (ns : Nodes) → parts_count (walk.all_parts sign ns) ≤ 2 * nodes_count ns
  all_parts_few sign none = omega arith
  all_parts_few sign (more n ns) = omega (arith, parts_count_joined (parts_from sign n) (walk.all_parts sign ns), parts_few sign n, all_parts_few sign ns)

-- at most so many disjuncts, and parts in all
abbrev AreFew : List (List NamedPiece) → ℕ → Type 0
AreFew ds nodes = (length ds ≤ nodes) × (disjuncts_count ds ≤ 2 * nodes)

one_few : (sign : Bool) (n : Node) → AreFew (parts_from sign n ∷ []) (node_count n)
one_few sign n = (a_node n, omega (arith, parts_few sign n))

or_one_local_few : (sign : Bool) (n : Node) (others : List (List NamedPiece)) → AreFew others (node_count n) → AreFew (or_one_local sign n others) (node_count n)
or_one_local_few sign n others few = elim (is_local (formula_of n)) as (λ b. AreFew (if b then (local_part sign n ∷ []) ∷ [] else others) (node_count n))
    [ true ↦ (a_node n, omega (arith, a_node n)) | false ↦ few ]

mutual
  disjuncts_few : (sign : Bool) (n : Node) → AreFew (disjuncts_from sign n) (node_count n)
  disjuncts_few sign (leaf a at) = one_few sign (leaf a at)
  disjuncts_few sign (negation n at) = let few = disjuncts_few (not sign) n in or_one_local_few sign (negation n at) (disjuncts_from (not sign) n) (omega (arith, few.0), omega (arith, few.1))
  disjuncts_few true (conjunction ns at) = one_few true (conjunction ns at)
  disjuncts_few false (conjunction ns at) = let few = all_disjuncts_few false ns in or_one_local_few false (conjunction ns at) (walk.all_disjuncts false ns) (omega (arith, few.0), omega (arith, few.1))
  disjuncts_few true (disjunction ns at) = let few = all_disjuncts_few true ns in or_one_local_few true (disjunction ns at) (walk.all_disjuncts true ns) (omega (arith, few.0), omega (arith, few.1))
  disjuncts_few false (disjunction ns at) = one_few false (disjunction ns at)
  disjuncts_few sign (under o n at) = one_few sign (under o n at)
  disjuncts_few sign (stepping process n at) = one_few sign (stepping process n at)
  disjuncts_few sign (until_of all left right at) = (omega arith, omega arith)

  all_disjuncts_few : (sign : Bool) (ns : Nodes) → AreFew (walk.all_disjuncts sign ns) (nodes_count ns)
  all_disjuncts_few sign none = (omega arith, omega arith)
  all_disjuncts_few sign (more n ns) =
      let here = disjuncts_few sign n in
      let rest = all_disjuncts_few sign ns in (
        omega (arith, length-append (disjuncts_from sign n) (walk.all_disjuncts sign ns), here.0, rest.0),
        omega (arith, disjuncts_count_joined (disjuncts_from sign n) (walk.all_disjuncts sign ns), here.1, rest.1),
      )

-- ---- there is a disjunct

mutual
  unfolding is_plain all_plain processes all_processes is_wide all_wide

  some_disjunct : (sign : Bool) (n : Node) → is_wide (formula_of n) ≡ true → first_fault false sign n ≡ None → 1 ≤ length (disjuncts_from sign n)
  some_disjunct sign (leaf a at) wide free = omega arith
  some_disjunct sign (negation n at) wide free = elim (cases_Bool (is_local (formula_of (negation n at)))) [
    | inl h ↦ omega (arith, ap length (local_disjuncts sign (negation n at) h))
    | inr h ↦ rw h (some_disjunct (not sign) n wide (rw h at free))
  ]
  some_disjunct true (conjunction ns at) wide free = omega arith
  some_disjunct false (conjunction ns at) wide free = elim (cases_Bool (is_local (formula_of (conjunction ns at)))) [
    | inl h ↦ omega (arith, ap length (local_disjuncts false (conjunction ns at) h))
    | inr h ↦ let both = and_parts (has_two (formulas_of ns)) (all_wide (formulas_of ns)) wide in rw h (some_of false ns both.0 both.1 (rw h at free))
  ]
  some_disjunct true (disjunction ns at) wide free = elim (cases_Bool (is_local (formula_of (disjunction ns at)))) [
    | inl h ↦ omega (arith, ap length (local_disjuncts true (disjunction ns at) h))
    | inr h ↦ let both = and_parts (has_two (formulas_of ns)) (all_wide (formulas_of ns)) wide in rw h (some_of true ns both.0 both.1 (rw h at free))
  ]
  some_disjunct false (disjunction ns at) wide free = omega arith
  some_disjunct sign (under o n at) wide free = omega arith
  some_disjunct sign (stepping process n at) wide free = omega arith
  some_disjunct sign (until_of all left right at) wide free = absurd (cc)

  some_of : (sign : Bool) (ns : Nodes) → has_two (formulas_of ns) ≡ true → all_wide (formulas_of ns) ≡ true → first_of false sign ns ≡ None → 1 ≤ length (walk.all_disjuncts sign ns)
  some_of sign none two wide free = absurd (false≢true two)
  some_of sign (more n ns) two wide free =
      omega (
        arith,
        length-append (disjuncts_from sign n) (walk.all_disjuncts sign ns),
        some_disjunct sign n (and_parts (is_wide (formula_of n)) (all_wide (formulas_of ns)) wide).0 (none_both (first_fault false sign n) (first_of false sign ns) free).0,
      )

-- ---- the whole

pub classed : (n : Node) (ds : List (List NamedPiece)) → IsWithinLimits n → first_fault false true n ≡ None → ds ≡ disjuncts_from true n → IsClassed n ds
classed n ds limits free is =
    let whole : IsClassed n (disjuncts_from true n) = record {
      free = free;
      split = refl;
      meaning = disjuncts_alike true n limits.counts free;
      counters = disjuncts_have true n free;
      names = disjuncts_names true n free;
      sized = record {
        fit = disjuncts_fit true n limits.counts free;
        some = some_disjunct true n limits.wide free;
        few = omega (arith, (disjuncts_few true n).0, limits.few);
        parts = omega (arith, (disjuncts_few true n).1, limits.few);
      };
    } in
    let P : List (List NamedPiece) → Type 0 = λ l. IsClassed n l in subst P (sym is) whole
