-- The names of the parts and disjuncts have the first fault that the names of the text have.
use Rattle.std.proofs.Common.{◌≡◌, ℕ, ℤ, zero, suc, Bool, true, false, not, List, [], ◌∷◌, ◌++◌, Option, None, Some, sym, ap, refl, ◌∙◌, append_assoc, append-nil, inl, inr}
use Rattle.std.proofs.lemmas.Bool.{cases_Bool, and_parts, false≢true}
use Rattle.std.specs.List.{list_all}
use Rattle.run_model.specs.Run.{Name}
use Rattle.run_model.specs.Formula as model
use Rattle.run_model.specs.Class as class
use Rattle.run_model.specs.Class.{is_plain, all_plain, processes, all_processes, is_local, after_sign}
use Rattle.rctl_grammar.specs.declared.fault.FormulaFault.{FormulaFault}
use Rattle.rctl_grammar.specs.declared.tree.Place.{Place}
use Rattle.rctl_grammar.specs.declared.tree.Side.{Side}
use Rattle.rctl_grammar.specs.declared.tree.Side.TheVariants as side
use Rattle.rctl_grammar.specs.declared.tree.Atom.TheVariants as atom
use Rattle.rctl_grammar.specs.Shape.{relation_of}
use Rattle.rctl_class.specs.Nodes.{Node, Nodes, leaf, negation, conjunction, disjunction, under, stepping, until_of, none, more, formula_of}
use Rattle.rctl_class.specs.Uses as used
use Rattle.rctl_class.specs.Uses.{Use, KnownNames, Watching, uses_of, all_uses, use_fault, seen_with, earlier, first_unknown, seen_after, Agree}
use Rattle.rctl_class.specs.Faults.{first_fault, first_of, operator_fault}
use Rattle.rctl_class.specs.NamedParts as named
use Rattle.rctl_class.specs.NamedParts.{NamedPiece, Pieces, name_on, side_uses, expr_uses, all_expr_uses, process_use, part_uses, operand_uses, parts_uses, disjuncts_uses, pieces}
use Rattle.rctl_class.specs.Walk as walk
use Rattle.rctl_class.specs.inside.Walk as inside_walk
use Rattle.rctl_class.specs.Walk.{first_place, side_from, expr_from, exprs_from, signed, local_part}
use Rattle.rctl_class.specs.Walk.{bounds, difference_bounds, parts_from, disjuncts_from}
use Rattle.rctl_class.specs.inside.Walk.{is_on, is_over, all_over}
use Rattle.rctl_class.proofs.Locals.{process_names, processes_named, over_plain, option_name, local_parts, local_disjuncts}
use Rattle.rctl_class.proofs.Members.{earlier_assoc}
use Rattle.rctl_class.proofs.Alike.{some_name, name_of_first, on_same, local_is_over, none_both, not_negative, if_none, if_bounded, bounded}

-- ---- names joined

pub unknown_joined : (known : KnownNames) (seen : List Watching) (us vs : List Use) → first_unknown known seen (us ++ vs) ≡ earlier (first_unknown known seen us) (first_unknown known (seen_after seen us) vs)
unfolding first_unknown seen_after
unknown_joined known seen [] vs = refl
unknown_joined known seen (u ∷ us) vs =
    ap (earlier (use_fault known seen u)) (unknown_joined known (seen_with seen u) us vs)
    ∙ sym (earlier_assoc (use_fault known seen u) (first_unknown known (seen_with seen u) us) (first_unknown known (seen_after (seen_with seen u) us) vs))

pub seen_joined : (seen : List Watching) (us vs : List Use) → seen_after seen (us ++ vs) ≡ seen_after (seen_after seen us) vs
unfolding seen_after
seen_joined seen [] vs = refl
seen_joined seen (u ∷ us) vs = seen_joined (seen_with seen u) us vs

pub agree_itself : (us : List Use) → Agree us us
agree_itself us = record { fault = λ known seen. refl; seen = λ before. refl }

pub agree_equal : (us vs : List Use) → us ≡ vs → Agree us vs
agree_equal us vs e = record { fault = λ known seen. ap (first_unknown known seen) e; seen = λ before. ap (seen_after before) e }

pub agree_then : (us vs ws : List Use) → Agree us vs → Agree vs ws → Agree us ws
agree_then us vs ws a b = record { fault = λ known seen. a.fault known seen ∙ b.fault known seen; seen = λ before. a.seen before ∙ b.seen before }

pub agree_joined : (us vs ws xs : List Use) → Agree us vs → Agree ws xs → Agree (us ++ ws) (vs ++ xs)
agree_joined us vs ws xs a b = record {
  fault = λ known seen.
      unknown_joined known seen us ws
      ∙ ap (λ f. earlier f (first_unknown known (seen_after seen us) ws)) (a.fault known seen)
      ∙ ap (λ s. earlier (first_unknown known seen vs) (first_unknown known s ws)) (a.seen seen)
      ∙ ap (earlier (first_unknown known seen vs)) (b.fault known (seen_after seen vs))
      ∙ sym (unknown_joined known seen vs xs);
  seen = λ before.
      seen_joined before us ws ∙ ap (λ s. seen_after s ws) (a.seen before) ∙ b.seen (seen_after before vs) ∙ sym (seen_joined before vs xs);
}

-- ---- a process named once, or before each of its variables and watches

-- the names without those of processes
abbrev without_processes : List Use → List Use
without_processes [] = []
without_processes (used.process p ∷ us) = without_processes us
without_processes (used.variable p v ∷ us) = used.variable p v ∷ without_processes us
without_processes (used.watch p w ∷ us) = used.watch p w ∷ without_processes us

without_joined : (us vs : List Use) → without_processes (us ++ vs) ≡ without_processes us ++ without_processes vs
without_joined [] vs = refl
without_joined (used.process p ∷ us) vs = without_joined us vs
without_joined (used.variable p v ∷ us) vs = ap (λ us. used.variable p v ∷ us) (without_joined us vs)
without_joined (used.watch p w ∷ us) vs = ap (λ us. used.watch p w ∷ us) (without_joined us vs)

-- the names begin with a process, or there are none
abbrev leads : List Use → Bool
leads [] = true
leads (used.process p ∷ us) = true
leads (used.variable p v ∷ us) = false
leads (used.watch p w ∷ us) = false

leads_joined : (us vs : List Use) → leads us ≡ true → leads vs ≡ true → leads (us ++ vs) ≡ true
leads_joined [] vs a b = b
leads_joined (used.process p ∷ us) vs a b = refl
leads_joined (used.variable p v ∷ us) vs a b = absurd (false≢true a)
leads_joined (used.watch p w ∷ us) vs a b = absurd (false≢true a)

mutual
  uses_lead : (n : Node) → leads (uses_of n) ≡ true
  uses_lead (leaf (atom.Truth value) at) = refl
  uses_lead (leaf (atom.Local p v compare right) at) = refl
  uses_lead (leaf (atom.Watch p w) at) = refl
  uses_lead (leaf (atom.InTransit p q compare k) at) = refl
  uses_lead (leaf (atom.Empty p q) at) = refl
  uses_lead (leaf (atom.Difference p x q y compare k) at) = refl
  uses_lead (negation n at) = uses_lead n
  uses_lead (conjunction ns at) = all_lead ns
  uses_lead (disjunction ns at) = all_lead ns
  uses_lead (under o n at) = uses_lead n
  uses_lead (stepping process n at) = refl
  uses_lead (until_of all left right at) = leads_joined (uses_of left) (uses_of right) (uses_lead left) (uses_lead right)

  all_lead : (ns : Nodes) → leads (all_uses ns) ≡ true
  all_lead none = refl
  all_lead (more n ns) = leads_joined (uses_of n) (all_uses ns) (uses_lead n) (all_lead ns)

-- names of a known process are no faults
known_process : (known : KnownNames) (seen : List Watching) (p : Name) (us : List Use) → known.is_process p ≡ true → list_all (is_on (Some p)) (process_names us) ≡ true →
    first_unknown known seen (without_processes us) ≡ first_unknown known seen us
unfolding first_unknown
known_process known seen p [] is alone = refl
known_process known seen p (used.process q ∷ us) is alone =
    let both = and_parts (is_on (Some p) q.name) (list_all (is_on (Some p)) (process_names us)) alone in
    let same : known.is_process q.name ≡ true = ap known.is_process (sym (on_same (Some p) q.name both.0)) ∙ is in
    known_process known seen p us is both.1 ∙ rw same refl
known_process known seen p (used.variable q v ∷ us) is alone = ap (earlier (use_fault known seen (used.variable q v))) (known_process known seen p us is alone)
known_process known seen p (used.watch q w ∷ us) is alone =
    ap (earlier (use_fault known seen (used.watch q w))) (known_process known (seen_with seen (used.watch q w)) p us is alone)

seen_without : (seen : List Watching) (us : List Use) → seen_after seen (without_processes us) ≡ seen_after seen us
unfolding seen_after
seen_without seen [] = refl
seen_without seen (used.process p ∷ us) = seen_without seen us
seen_without seen (used.variable p v ∷ us) = seen_without seen us
seen_without seen (used.watch p w ∷ us) = seen_without (seen_with seen (used.watch p w)) us

-- behind a first name of the process later ones add nothing
named_once : (p : Place) (us : List Use) → list_all (is_on (Some p.name)) (process_names us) ≡ true → Agree (used.process p ∷ without_processes us) (used.process p ∷ us)
unfolding first_unknown seen_after
named_once p us alone = record {
  fault = λ known seen. elim (cases_Bool (known.is_process p.name)) [
    | inl is ↦ rw is (known_process known seen p.name us is alone)
    | inr is ↦ rw is refl
  ];
  seen = λ before. seen_without before us;
}

-- ---- local formulas

side_names : (q : Option Name) (p v : Place) (right : Side) → inside_walk.side_is_over q right ≡ true → side_uses (some_name q) (side_from right) ≡ without_processes (used.side_uses right)
side_names q p v (side.Number value) h = refl
side_names q p v (side.Variable r w) h = rw (on_same q r.name h) refl

mutual
  expr_names : (q : Option Name) (n : Node) → is_over q n ≡ true → expr_uses (some_name q) (expr_from n) ≡ without_processes (uses_of n)
  expr_names q (leaf (atom.Truth value) at) h = refl
  expr_names q (leaf (atom.Local p v compare right) at) h =
      let both = and_parts (is_on q p.name) (inside_walk.side_is_over q right) h in
      ap (λ us. used.variable (some_name q) v ∷ us) (side_names q p v right both.1) ∙ ap (λ name. used.variable name v ∷ without_processes (used.side_uses right)) (on_same q p.name both.0)
  expr_names q (leaf (atom.Watch p w) at) h = ap (λ name. used.watch name w ∷ []) (on_same q p.name h)
  expr_names q (leaf (atom.InTransit p r compare k) at) h = absurd (false≢true h)
  expr_names q (leaf (atom.Empty p r) at) h = absurd (false≢true h)
  expr_names q (leaf (atom.Difference p x r y compare k) at) h = absurd (false≢true h)
  expr_names q (negation n at) h = expr_names q n h
  expr_names q (conjunction ns at) h = exprs_names q ns h
  expr_names q (disjunction ns at) h = exprs_names q ns h
  expr_names q (under o n at) h = absurd (false≢true h)
  expr_names q (stepping process n at) h = absurd (false≢true h)
  expr_names q (until_of all left right at) h = absurd (false≢true h)

  exprs_names : (q : Option Name) (ns : Nodes) → all_over q ns ≡ true → all_expr_uses (some_name q) (exprs_from ns) ≡ without_processes (all_uses ns)
  exprs_names q none h = refl
  exprs_names q (more n ns) h =
      let both = and_parts (is_over q n) (all_over q ns) h in
      rw (expr_names q n both.0, exprs_names q ns both.1) (sym (without_joined (uses_of n) (all_uses ns)))

signed_names : (sign : Bool) (p : Name) (e : named.Expr) → expr_uses p (signed sign e) ≡ expr_uses p e
signed_names true p e = refl
signed_names false p e = refl

-- names of one process alone, and the same with the process named once
once_named : (us : List Use) → leads us ≡ true → list_all (is_on (option_name (first_place us))) (process_names us) ≡ true → Agree (process_use (first_place us) ++ without_processes us) us
once_named [] lead alone = agree_itself []
once_named (used.process p ∷ us) lead alone = named_once p us (and_parts (is_on (Some p.name) p.name) (list_all (is_on (Some p.name)) (process_names us)) alone).1
once_named (used.variable p v ∷ us) lead alone = absurd (false≢true lead)
once_named (used.watch p w ∷ us) lead alone = absurd (false≢true lead)

pub local_names : (sign : Bool) (n : Node) → is_local (formula_of n) ≡ true → Agree (parts_uses (local_part sign n ∷ [])) (uses_of n)
local_names sign n h =
    let on = first_place (uses_of n) in
    let over = local_is_over n h in
    let alone : list_all (is_on (option_name on)) (process_names (uses_of n)) ≡ true =
    ap (list_all (is_on (option_name on))) (sym (processes_named n))
    ∙ (and_parts (is_plain (formula_of n)) (list_all (is_on (option_name on)) (processes (formula_of n))) (sym (over_plain (option_name on) n) ∙ over)).1 in
    let plain : parts_uses (local_part sign n ∷ []) ≡ process_use on ++ without_processes (uses_of n) =
    append-nil (process_use on ++ expr_uses (name_on on) (signed sign (expr_from n)))
    ∙ ap (λ us. process_use on ++ us) (signed_names sign (name_on on) (expr_from n) ∙ ap (λ name. expr_uses name (expr_from n)) (sym (name_of_first on)) ∙ expr_names (option_name on) n over) in
    agree_then (parts_uses (local_part sign n ∷ [])) (process_use on ++ without_processes (uses_of n)) (uses_of n) (agree_equal _ _ plain) (once_named (uses_of n) (uses_lead n) alone)

-- ---- channels

earlier_itself : (a : Option FormulaFault) → earlier a a ≡ a
earlier_itself None = refl
earlier_itself (Some f) = refl

-- names without watches, twice, are as if named once
named_twice : (us : List Use) → ((seen : List Watching) → seen_after seen us ≡ seen) → Agree (us ++ us) us
named_twice us stays = record {
  fault = λ known seen.
      unknown_joined known seen us us
      ∙ ap (λ s. earlier (first_unknown known seen us) (first_unknown known s us)) (stays seen)
      ∙ earlier_itself (first_unknown known seen us);
  seen = λ before. seen_joined before us us ∙ ap (λ s. seen_after s us) (stays before);
}

channel_twice : (p q : Place) → Agree (used.process p ∷ used.process q ∷ used.process p ∷ used.process q ∷ []) (used.process p ∷ used.process q ∷ [])
unfolding seen_after
channel_twice p q = named_twice (used.process p ∷ used.process q ∷ []) (λ seen. refl)

bounds_names : (p q : Place) (relation : model.Relation) (k : ℕ) → class.is_unequal relation ≡ false → Agree (parts_uses (bounds p q relation k)) (used.process p ∷ used.process q ∷ [])
bounds_names p q model.Equal k h = channel_twice p q
bounds_names p q model.Unequal k h = absurd (false≢true (sym h))
bounds_names p q model.Less zero h = agree_itself (used.process p ∷ used.process q ∷ [])
bounds_names p q model.Less (suc k) h = agree_itself (used.process p ∷ used.process q ∷ [])
bounds_names p q model.LessOrEqual k h = agree_itself (used.process p ∷ used.process q ∷ [])
bounds_names p q model.Greater k h = agree_itself (used.process p ∷ used.process q ∷ [])
bounds_names p q model.GreaterOrEqual k h = agree_itself (used.process p ∷ used.process q ∷ [])

-- the names of a difference
abbrev difference_uses : (p x q y : Place) → List Use
difference_uses p x q y = used.process p ∷ used.variable p.name x ∷ used.process q ∷ used.variable q.name y ∷ []

difference_twice : (p x q y : Place) → Agree (difference_uses p x q y ++ difference_uses p x q y) (difference_uses p x q y)
unfolding seen_after
difference_twice p x q y = named_twice (difference_uses p x q y) (λ seen. refl)

difference_names : (p x q y : Place) (relation : model.Relation) (k : ℤ) → class.is_unequal relation ≡ false → Agree (parts_uses (difference_bounds p x q y relation k)) (difference_uses p x q y)
difference_names p x q y model.Equal k h = difference_twice p x q y
difference_names p x q y model.Unequal k h = absurd (false≢true (sym h))
difference_names p x q y model.Less k h = agree_itself (difference_uses p x q y)
difference_names p x q y model.LessOrEqual k h = agree_itself (difference_uses p x q y)
difference_names p x q y model.Greater k h = agree_itself (difference_uses p x q y)
difference_names p x q y model.GreaterOrEqual k h = agree_itself (difference_uses p x q y)

-- ---- parts

parts_uses_joined : (ps qs : List NamedPiece) → parts_uses (ps ++ qs) ≡ parts_uses ps ++ parts_uses qs
parts_uses_joined [] qs = refl
parts_uses_joined (p ∷ ps) qs = rw (parts_uses_joined ps qs) (sym (append_assoc (part_uses p) (parts_uses ps) (parts_uses qs)))

pub operand_names : (ps : List NamedPiece) → operand_uses (pieces ps) ≡ parts_uses ps
operand_names [] = refl
operand_names (p ∷ ps) = ap (λ us. part_uses p ++ us) (operand_names ps)

local_parts_names : (sign : Bool) (n : Node) → is_local (formula_of n) ≡ true → Agree (parts_uses (parts_from sign n)) (uses_of n)
local_parts_names sign n h = rw (local_parts sign n h) (local_names sign n h)

mutual
  unfolding is_plain all_plain processes all_processes

  pub parts_names : (sign : Bool) (n : Node) → first_fault true sign n ≡ None → Agree (parts_uses (parts_from sign n)) (uses_of n)
  parts_names sign (leaf (atom.Truth value) at) free = local_parts_names sign (leaf (atom.Truth value) at) refl
  parts_names sign (leaf (atom.Local p v compare right) at) free = elim (cases_Bool (is_local (formula_of (leaf (atom.Local p v compare right) at)))) [
    | inl h ↦ local_parts_names sign (leaf (atom.Local p v compare right) at) h
    | inr h ↦ absurd (let bad = rw h at free in cc)
  ]
  parts_names sign (leaf (atom.Watch p w) at) free = local_parts_names sign (leaf (atom.Watch p w) at) refl
  parts_names sign (leaf (atom.InTransit p q compare k) at) free =
      bounds_names p q (after_sign sign (relation_of compare)) k (if_none (class.is_unequal (after_sign sign (relation_of compare))) _ free)
  parts_names true (leaf (atom.Empty p q) at) free = agree_itself (used.process p ∷ used.process q ∷ [])
  parts_names false (leaf (atom.Empty p q) at) free = agree_itself (used.process p ∷ used.process q ∷ [])
  parts_names sign (leaf (atom.Difference p x q y compare k) at) free =
      let are = bounded sign p.name q.name (relation_of compare) (if_bounded (class.are_bounded sign p.name q.name (relation_of compare)) _ free) in
      difference_names p x q y (after_sign sign (relation_of compare)) k are.1
  parts_names sign (negation n at) free = elim (cases_Bool (is_local (formula_of (negation n at)))) [
    | inl h ↦ local_parts_names sign (negation n at) h
    | inr h ↦ rw h (parts_names (not sign) n (rw h at free))
  ]
  parts_names true (conjunction ns at) free = elim (cases_Bool (is_local (formula_of (conjunction ns at)))) [
    | inl h ↦ local_parts_names true (conjunction ns at) h
    | inr h ↦ rw h (all_parts_names true ns (rw h at free))
  ]
  parts_names false (conjunction ns at) free = elim (cases_Bool (is_local (formula_of (conjunction ns at)))) [
    | inl h ↦ local_parts_names false (conjunction ns at) h
    | inr h ↦ absurd (let bad = rw h at free in cc)
  ]
  parts_names true (disjunction ns at) free = elim (cases_Bool (is_local (formula_of (disjunction ns at)))) [
    | inl h ↦ local_parts_names true (disjunction ns at) h
    | inr h ↦ absurd (let bad = rw h at free in cc)
  ]
  parts_names false (disjunction ns at) free = elim (cases_Bool (is_local (formula_of (disjunction ns at)))) [
    | inl h ↦ local_parts_names false (disjunction ns at) h
    | inr h ↦ rw h (all_parts_names false ns (rw h at free))
  ]
  parts_names true (under o n at) free =
      rw (append-nil (operand_uses (pieces (parts_from true n))), operand_names (parts_from true n))
      (parts_names true n (none_both (operator_fault true o at) (first_fault true true n) free).1)
  parts_names false (under o n at) free = absurd (not_negative o at (none_both (operator_fault false o at) (first_fault true true n) free).0)
  parts_names true (stepping process n at) free =
      rw (append-nil (operand_uses (pieces (parts_from true n))), operand_names (parts_from true n))
      (agree_joined (used.process process ∷ []) (used.process process ∷ []) (parts_uses (parts_from true n)) (uses_of n) (agree_itself (used.process process ∷ [])) (parts_names true n free))
  parts_names false (stepping process n at) free = absurd (cc)
  parts_names sign (until_of all left right at) free = absurd (cc)

  all_parts_names : (sign : Bool) (ns : Nodes) → first_of true sign ns ≡ None → Agree (parts_uses (walk.all_parts sign ns)) (all_uses ns)
  all_parts_names sign none free = agree_itself []
  all_parts_names sign (more n ns) free =
      let frees = none_both (first_fault true sign n) (first_of true sign ns) free in
      rw (parts_uses_joined (parts_from sign n) (walk.all_parts sign ns))
      (agree_joined (parts_uses (parts_from sign n)) (uses_of n) (parts_uses (walk.all_parts sign ns)) (all_uses ns) (parts_names sign n frees.0) (all_parts_names sign ns frees.1))

-- ---- disjuncts

disjuncts_uses_joined : (ds es : List (List NamedPiece)) → disjuncts_uses (ds ++ es) ≡ disjuncts_uses ds ++ disjuncts_uses es
disjuncts_uses_joined [] es = refl
disjuncts_uses_joined (d ∷ ds) es = rw (disjuncts_uses_joined ds es) (sym (append_assoc (parts_uses d) (disjuncts_uses ds) (disjuncts_uses es)))

one_names : (sign : Bool) (n : Node) → first_fault true sign n ≡ None → Agree (disjuncts_uses (parts_from sign n ∷ [])) (uses_of n)
one_names sign n free = rw (append-nil (parts_uses (parts_from sign n))) (parts_names sign n free)

local_disjuncts_names : (sign : Bool) (n : Node) → is_local (formula_of n) ≡ true → Agree (disjuncts_uses (disjuncts_from sign n)) (uses_of n)
local_disjuncts_names sign n h = rw (local_disjuncts sign n h, append-nil (parts_uses (local_part sign n ∷ []))) (local_names sign n h)

mutual
  unfolding is_plain all_plain processes all_processes

  pub disjuncts_names : (sign : Bool) (n : Node) → first_fault false sign n ≡ None → Agree (disjuncts_uses (disjuncts_from sign n)) (uses_of n)
  disjuncts_names sign (leaf a at) free = one_names sign (leaf a at) free
  disjuncts_names sign (negation n at) free = elim (cases_Bool (is_local (formula_of (negation n at)))) [
    | inl h ↦ local_disjuncts_names sign (negation n at) h
    | inr h ↦ rw h (disjuncts_names (not sign) n (rw h at free))
  ]
  disjuncts_names true (conjunction ns at) free = one_names true (conjunction ns at) free
  disjuncts_names false (conjunction ns at) free = elim (cases_Bool (is_local (formula_of (conjunction ns at)))) [
    | inl h ↦ local_disjuncts_names false (conjunction ns at) h
    | inr h ↦ rw h (all_disjuncts_names false ns (rw h at free))
  ]
  disjuncts_names true (disjunction ns at) free = elim (cases_Bool (is_local (formula_of (disjunction ns at)))) [
    | inl h ↦ local_disjuncts_names true (disjunction ns at) h
    | inr h ↦ rw h (all_disjuncts_names true ns (rw h at free))
  ]
  disjuncts_names false (disjunction ns at) free = one_names false (disjunction ns at) free
  disjuncts_names sign (under o n at) free = one_names sign (under o n at) free
  disjuncts_names sign (stepping process n at) free = one_names sign (stepping process n at) free
  disjuncts_names sign (until_of all left right at) free = absurd (cc)

  all_disjuncts_names : (sign : Bool) (ns : Nodes) → first_of false sign ns ≡ None → Agree (disjuncts_uses (walk.all_disjuncts sign ns)) (all_uses ns)
  all_disjuncts_names sign none free = agree_itself []
  all_disjuncts_names sign (more n ns) free =
      let frees = none_both (first_fault false sign n) (first_of false sign ns) free in
      rw (disjuncts_uses_joined (disjuncts_from sign n) (walk.all_disjuncts sign ns))
      (agree_joined (disjuncts_uses (disjuncts_from sign n)) (uses_of n) (disjuncts_uses (walk.all_disjuncts sign ns)) (all_uses ns) (disjuncts_names sign n frees.0) (all_disjuncts_names sign ns frees.1))
