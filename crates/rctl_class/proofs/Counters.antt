-- The counters of the parts and disjuncts of a formula of the class are those of the formula.
use Rattle.std.proofs.Common.{◌≡◌, ℕ, zero, suc, ℤ, pos, Bool, true, false, not, List, [], ◌∷◌, ◌++◌, map, None, sym, ap, refl, ◌∙◌, subst, inl, inr, append_assoc, append-nil}
use Rattle.std.proofs.lemmas.Bool.{cases_Bool, false≢true}
use Rattle.std.proofs.lemmas.List.{map-append}
use Rattle.std.proofs.lemmas.List.Elements.{Contains-append_left, Contains-append_right, Contains-append_cases}
use Rattle.run_model.specs.Formula as model
use Rattle.run_model.specs.Formula.{Formula}
use Rattle.run_model.specs.Class as class
use Rattle.run_model.specs.Class.{is_plain, all_plain, processes, all_processes, is_local, after_sign, are_bounded}
use Rattle.rctl_grammar.specs.declared.tree.Place.{Place}
use Rattle.rctl_grammar.specs.declared.tree.Atom.TheVariants as atom
use Rattle.rctl_grammar.specs.Shape.{relation_of}
use Rattle.rctl_class.specs.Nodes.{Node, Nodes, leaf, negation, conjunction, disjunction, under, stepping, until_of, none, more, formula_of, formulas_of}
use Rattle.rctl_class.specs.Faults.{first_fault, first_of, operator_fault}
use Rattle.rctl_class.specs.NamedParts.{NamedPiece, part_formula, part_formulas, pieces}
use Rattle.rctl_class.specs.Walk as walk
use Rattle.rctl_class.specs.Walk.{local_part, bounds, difference_bounds, parts_from, disjuncts_from}
use Rattle.rctl_class.specs.Counters.{Counter, counters_of, all_counters, parts_counters, disjuncts_counters, HaveSameMembers}
use Rattle.rctl_class.specs.Classed.{disjunct_formulas}
use Rattle.rctl_class.proofs.Locals.{local_parts, local_disjuncts}
use Rattle.rctl_class.proofs.Alike.{local_formula, none_both, not_negative, if_bounded, bounded}

-- ---- lists with the same members

same_itself : (xs : List Counter) → HaveSameMembers xs xs
same_itself xs = record { same = λ c. (λ h. h, λ h. h) }

same_equal : (xs ys : List Counter) → xs ≡ ys → HaveSameMembers xs ys
same_equal xs ys e = let P : List Counter → Type 0 = λ l. HaveSameMembers xs l in subst P e (same_itself xs)

same_joined : (xs ys us vs : List Counter) → HaveSameMembers xs ys → HaveSameMembers us vs → HaveSameMembers (xs ++ us) (ys ++ vs)
same_joined xs ys us vs a b = record {
  same = λ c. (
    λ h. elim (Contains-append_cases xs us c h) [ inl m ↦ Contains-append_left ys vs c ((a.same c).0 m) | inr m ↦ Contains-append_right ys vs c ((b.same c).0 m) ],
    λ h. elim (Contains-append_cases ys vs c h) [ inl m ↦ Contains-append_left xs us c ((a.same c).1 m) | inr m ↦ Contains-append_right xs us c ((b.same c).1 m) ],
  );
}

same_twice : (xs : List Counter) → HaveSameMembers (xs ++ xs) xs
same_twice xs = record { same = λ c. (λ h. elim (Contains-append_cases xs xs c h) [ inl m ↦ m | inr m ↦ m ], λ h. Contains-append_left xs xs c h) }

parts_joined : (fs gs : List Formula) → parts_counters (fs ++ gs) ≡ parts_counters fs ++ parts_counters gs
parts_joined [] gs = refl
parts_joined (f ∷ fs) gs = rw (parts_joined fs gs) (sym (append_assoc (counters_of f) (parts_counters fs) (parts_counters gs)))

disjuncts_joined : (ds es : List (List Formula)) → disjuncts_counters (ds ++ es) ≡ disjuncts_counters ds ++ disjuncts_counters es
disjuncts_joined [] es = refl
disjuncts_joined (d ∷ ds) es = rw (disjuncts_joined ds es) (sym (append_assoc (parts_counters d) (disjuncts_counters ds) (disjuncts_counters es)))

-- ---- parts

-- the parts have the counters of the node
abbrev PartsHave : List NamedPiece → Node → Type 0
PartsHave ps n = HaveSameMembers (parts_counters (map part_formula ps)) (counters_of (formula_of n))

signed_counters : (sign : Bool) (f : Formula) → counters_of (class.signed sign f) ≡ counters_of f
signed_counters true f = refl
signed_counters false f = refl

local_counters : (sign : Bool) (n : Node) → is_local (formula_of n) ≡ true → parts_counters (map part_formula (local_part sign n ∷ [])) ≡ counters_of (formula_of n)
local_counters sign n h = append-nil (counters_of (part_formula (local_part sign n))) ∙ ap counters_of (local_formula sign n h) ∙ signed_counters sign (formula_of n)

local_parts_have : (sign : Bool) (n : Node) → is_local (formula_of n) ≡ true → PartsHave (parts_from sign n) n
local_parts_have sign n h = rw (local_parts sign n h) (same_equal _ _ (local_counters sign n h))

bounds_have : (p q : Place) (relation : model.Relation) (k : ℕ) → parts_counters (map part_formula (bounds p q relation k)) ≡ []
bounds_have p q model.Equal k = refl
bounds_have p q model.Unequal k = refl
bounds_have p q model.Less zero = refl
bounds_have p q model.Less (suc k) = refl
bounds_have p q model.LessOrEqual k = refl
bounds_have p q model.Greater k = refl
bounds_have p q model.GreaterOrEqual k = refl

-- the two counters of a difference
abbrev both_of : Place → Place → Place → Place → List Counter
both_of p x q y = counters_of (model.Difference p.name x.name q.name y.name model.Equal (pos 0))

differences_have : (p x q y : Place) (relation : model.Relation) (k : ℤ) → class.is_unequal relation ≡ false →
    HaveSameMembers (parts_counters (map part_formula (difference_bounds p x q y relation k))) (both_of p x q y)
differences_have p x q y model.Equal k h = same_twice (both_of p x q y)
differences_have p x q y model.Unequal k h = absurd (false≢true (sym h))
differences_have p x q y model.Less k h = same_itself (both_of p x q y)
differences_have p x q y model.LessOrEqual k h = same_itself (both_of p x q y)
differences_have p x q y model.Greater k h = same_itself (both_of p x q y)
differences_have p x q y model.GreaterOrEqual k h = same_itself (both_of p x q y)

operand_counters : (ps : List NamedPiece) → all_counters (part_formulas (pieces ps)) ≡ parts_counters (map part_formula ps)
operand_counters [] = refl
operand_counters (p ∷ ps) = ap (λ cs. counters_of (part_formula p) ++ cs) (operand_counters ps)

mutual
  unfolding is_plain all_plain processes all_processes

  parts_have : (sign : Bool) (n : Node) → first_fault true sign n ≡ None → PartsHave (parts_from sign n) n
  parts_have sign (leaf (atom.Truth value) at) free = local_parts_have sign (leaf (atom.Truth value) at) refl
  parts_have sign (leaf (atom.Local p v compare right) at) free = elim (cases_Bool (is_local (formula_of (leaf (atom.Local p v compare right) at)))) [
    | inl h ↦ local_parts_have sign (leaf (atom.Local p v compare right) at) h
    | inr h ↦ absurd (let bad = rw h at free in cc)
  ]
  parts_have sign (leaf (atom.Watch p w) at) free = local_parts_have sign (leaf (atom.Watch p w) at) refl
  parts_have sign (leaf (atom.InTransit p q compare k) at) free = same_equal _ _ (bounds_have p q (after_sign sign (relation_of compare)) k)
  parts_have true (leaf (atom.Empty p q) at) free = same_itself []
  parts_have false (leaf (atom.Empty p q) at) free = same_itself []
  parts_have sign (leaf (atom.Difference p x q y compare k) at) free =
      let are = bounded sign p.name q.name (relation_of compare) (if_bounded (are_bounded sign p.name q.name (relation_of compare)) _ free) in
      differences_have p x q y (after_sign sign (relation_of compare)) k are.1
  parts_have sign (negation n at) free = elim (cases_Bool (is_local (formula_of (negation n at)))) [
    | inl h ↦ local_parts_have sign (negation n at) h
    | inr h ↦ rw h (parts_have (not sign) n (rw h at free))
  ]
  parts_have true (conjunction ns at) free = elim (cases_Bool (is_local (formula_of (conjunction ns at)))) [
    | inl h ↦ local_parts_have true (conjunction ns at) h
    | inr h ↦ rw h (all_parts_have true ns (rw h at free))
  ]
  parts_have false (conjunction ns at) free = elim (cases_Bool (is_local (formula_of (conjunction ns at)))) [
    | inl h ↦ local_parts_have false (conjunction ns at) h
    | inr h ↦ absurd (let bad = rw h at free in cc)
  ]
  parts_have true (disjunction ns at) free = elim (cases_Bool (is_local (formula_of (disjunction ns at)))) [
    | inl h ↦ local_parts_have true (disjunction ns at) h
    | inr h ↦ absurd (let bad = rw h at free in cc)
  ]
  parts_have false (disjunction ns at) free = elim (cases_Bool (is_local (formula_of (disjunction ns at)))) [
    | inl h ↦ local_parts_have false (disjunction ns at) h
    | inr h ↦ rw h (all_parts_have false ns (rw h at free))
  ]
  parts_have true (under o n at) free =
      rw (append-nil (all_counters (part_formulas (pieces (parts_from true n)))), operand_counters (parts_from true n))
      (parts_have true n (none_both (operator_fault true o at) (first_fault true true n) free).1)
  parts_have false (under o n at) free = absurd (not_negative o at (none_both (operator_fault false o at) (first_fault true true n) free).0)
  parts_have true (stepping process n at) free =
      rw (append-nil (all_counters (part_formulas (pieces (parts_from true n)))), operand_counters (parts_from true n)) (parts_have true n free)
  parts_have false (stepping process n at) free = absurd (cc)
  parts_have sign (until_of all left right at) free = absurd (cc)

  all_parts_have : (sign : Bool) (ns : Nodes) → first_of true sign ns ≡ None → HaveSameMembers (parts_counters (map part_formula (walk.all_parts sign ns))) (all_counters (formulas_of ns))
  all_parts_have sign none free = same_itself []
  all_parts_have sign (more n ns) free =
      let frees = none_both (first_fault true sign n) (first_of true sign ns) free in
      rw (map-append part_formula (parts_from sign n) (walk.all_parts sign ns), parts_joined (map part_formula (parts_from sign n)) (map part_formula (walk.all_parts sign ns)))
      (same_joined _ (counters_of (formula_of n)) _ (all_counters (formulas_of ns)) (parts_have sign n frees.0) (all_parts_have sign ns frees.1))

-- ---- disjuncts

-- the disjuncts have the counters of the node
abbrev DisjunctsHave : List (List NamedPiece) → Node → Type 0
DisjunctsHave ds n = HaveSameMembers (disjuncts_counters (disjunct_formulas ds)) (counters_of (formula_of n))

one_has : (sign : Bool) (n : Node) → first_fault true sign n ≡ None → DisjunctsHave (parts_from sign n ∷ []) n
one_has sign n free = rw (append-nil (parts_counters (map part_formula (parts_from sign n)))) (parts_have sign n free)

local_disjuncts_have : (sign : Bool) (n : Node) → is_local (formula_of n) ≡ true → DisjunctsHave (disjuncts_from sign n) n
local_disjuncts_have sign n h =
    rw (local_disjuncts sign n h, append-nil (parts_counters (map part_formula (local_part sign n ∷ [])))) (same_equal _ _ (local_counters sign n h))

mutual
  unfolding is_plain all_plain processes all_processes

  pub disjuncts_have : (sign : Bool) (n : Node) → first_fault false sign n ≡ None → DisjunctsHave (disjuncts_from sign n) n
  disjuncts_have sign (leaf a at) free = one_has sign (leaf a at) free
  disjuncts_have sign (negation n at) free = elim (cases_Bool (is_local (formula_of (negation n at)))) [
    | inl h ↦ local_disjuncts_have sign (negation n at) h
    | inr h ↦ rw h (disjuncts_have (not sign) n (rw h at free))
  ]
  disjuncts_have true (conjunction ns at) free = one_has true (conjunction ns at) free
  disjuncts_have false (conjunction ns at) free = elim (cases_Bool (is_local (formula_of (conjunction ns at)))) [
    | inl h ↦ local_disjuncts_have false (conjunction ns at) h
    | inr h ↦ rw h (all_disjuncts_have false ns (rw h at free))
  ]
  disjuncts_have true (disjunction ns at) free = elim (cases_Bool (is_local (formula_of (disjunction ns at)))) [
    | inl h ↦ local_disjuncts_have true (disjunction ns at) h
    | inr h ↦ rw h (all_disjuncts_have true ns (rw h at free))
  ]
  disjuncts_have false (disjunction ns at) free = one_has false (disjunction ns at) free
  disjuncts_have sign (under o n at) free = one_has sign (under o n at) free
  disjuncts_have sign (stepping process n at) free = one_has sign (stepping process n at) free
  disjuncts_have sign (until_of all left right at) free = absurd (cc)

  all_disjuncts_have : (sign : Bool) (ns : Nodes) → first_of false sign ns ≡ None → HaveSameMembers (disjuncts_counters (disjunct_formulas (walk.all_disjuncts sign ns))) (all_counters (formulas_of ns))
  all_disjuncts_have sign none free = same_itself []
  all_disjuncts_have sign (more n ns) free =
      let frees = none_both (first_fault false sign n) (first_of false sign ns) free in
      rw (map-append (map part_formula) (disjuncts_from sign n) (walk.all_disjuncts sign ns), disjuncts_joined (disjunct_formulas (disjuncts_from sign n)) (disjunct_formulas (walk.all_disjuncts sign ns)))
      (same_joined _ (counters_of (formula_of n)) _ (all_counters (formulas_of ns)) (disjuncts_have sign n frees.0) (all_disjuncts_have sign ns frees.1))
