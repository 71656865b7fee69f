-- The parts and disjuncts of a formula of the class mean what the model's do.
use Rattle.std.proofs.Common.{◌≡◌, ◌↔◌, ℕ, zero, suc, ◌+◌, ◌<◌, ◌^◌, ℤ, Bool, true, false, not, bytes_eq, List, [], ◌∷◌, ◌++◌, map, length, Option, None, Some, if◌then◌else◌, sym, ap, refl, ◌∙◌, inl, inr, subst, rules, nat_lt, arith}
use Rattle.std.proofs.lemmas.Bool.{cases_Bool, and_parts, false≢true}
use Rattle.std.proofs.lemmas.Bool.Decides.{nat_tests}
use Rattle.std.proofs.lemmas.List.{map-append}
use Rattle.std.proofs.lemmas.Slice.Eq.{bytes_eq-Decides}
use Rattle.run_model.specs.Cut.{Cut, Clocks, with_next}
use Rattle.run_model.specs.Run.{Name, Run}
use Rattle.run_model.specs.Formula as model
use Rattle.run_model.specs.Formula.{Formula, Formulas}
use Rattle.run_model.specs.Consistent.{IsOrder, IsConsistent, PathIn}
use Rattle.run_model.specs.Sublattice.{AllIn}
use Rattle.run_model.specs.Operators.{EfHolds, AgHolds, EgHolds, ExHolds}
use Rattle.run_model.specs.Meaning.{Sat, SatAll}
use Rattle.run_model.specs.Class as class
use Rattle.run_model.specs.Class.{is_plain, all_plain, processes, all_processes, is_local, after_sign, channel_parts, parts, all_parts, difference_parts, are_bounded, is_unequal, disjuncts, all_disjuncts, SatParts, SatDisjuncts}
use Rattle.run_model.proofs.Paths.{path_last}
use Rattle.meaning_laws.proofs.DisjunctLemmas.{parts_mean}
use Rattle.rctl_grammar.specs.declared.tree.Operator.{Operator}
use Rattle.rctl_grammar.specs.declared.tree.Operator.TheVariants as operator
use Rattle.rctl_grammar.specs.declared.tree.Place.{Place}
use Rattle.rctl_grammar.specs.declared.tree.Side.{Side}
use Rattle.rctl_grammar.specs.declared.tree.Side.TheVariants as side
use Rattle.rctl_grammar.specs.declared.tree.Atom.TheVariants as atom
use Rattle.rctl_grammar.specs.declared.fault.FormulaFault.{FormulaFault}
use Rattle.rctl_grammar.specs.Shape.{relation_of, model_operator, model_side, plain_side}
use Rattle.rctl_class.specs.Nodes.{Node, Nodes, leaf, negation, conjunction, disjunction, under, stepping, until_of, none, more, formula_of, formulas_of, counts_fit, all_counts_fit}
use Rattle.rctl_class.specs.Uses.{earlier, uses_of}
use Rattle.rctl_class.specs.Faults.{first_fault, first_of, operator_fault}
use Rattle.rctl_class.specs.NamedParts.{NamedPiece, name_on, side_formula, expr_formula, expr_formulas, part_formula, part_formulas, pieces}
use Rattle.rctl_class.specs.Walk as walk
use Rattle.rctl_class.specs.inside.Walk as inside_walk
use Rattle.rctl_class.specs.Walk.{first_place, side_from, expr_from, exprs_from, local_part, bounds}
use Rattle.rctl_class.specs.Walk.{difference_bounds, next_count, parts_from, disjuncts_from}
use Rattle.rctl_class.specs.inside.Walk.{is_on, is_over, all_over}
use Rattle.rctl_class.specs.Classed.{MeanTheSame, Head, bare, operated, stepped, head_of, HaveOneHead, Alike, PartsAlike, EachAlike, disjunct_formulas}
use Rattle.rctl_class.proofs.Locals.{option_name, over_is_local, local_parts, local_disjuncts}

-- ---- what is alike

same_meaning : (f : Formula) → MeanTheSame f f
same_meaning f r order c k = (λ h. h, λ h. h)

one_head : (h : Head) → HaveOneHead h h
one_head bare = tt
one_head (operated o f) = (refl, same_meaning f)
one_head (stepped p f) = (refl, same_meaning f)

alike_itself : (f : Formula) → Alike f f
alike_itself f = record { head = one_head (head_of f); meaning = same_meaning f }

parts_alike_themselves : (fs : List Formula) → PartsAlike fs fs
parts_alike_themselves [] = tt
parts_alike_themselves (f ∷ fs) = (alike_itself f, parts_alike_themselves fs)

pub parts_equal : (fs gs : List Formula) → fs ≡ gs → PartsAlike fs gs
parts_equal fs gs e = let P : List Formula → Type 0 = λ l. PartsAlike fs l in subst P e (parts_alike_themselves fs)

parts_alike_joined : (fs gs hs ks : List Formula) → PartsAlike fs gs → PartsAlike hs ks → PartsAlike (fs ++ hs) (gs ++ ks)
parts_alike_joined [] [] hs ks a b = b
parts_alike_joined [] (g ∷ gs) hs ks a b = absurd a
parts_alike_joined (f ∷ fs) [] hs ks a b = absurd a
parts_alike_joined (f ∷ fs) (g ∷ gs) hs ks a b = (a.0, parts_alike_joined fs gs hs ks a.1 b)

each_alike_joined : (fs gs hs ks : List (List Formula)) → EachAlike fs gs → EachAlike hs ks → EachAlike (fs ++ hs) (gs ++ ks)
each_alike_joined [] [] hs ks a b = b
each_alike_joined [] (g ∷ gs) hs ks a b = absurd a
each_alike_joined (f ∷ fs) [] hs ks a b = absurd a
each_alike_joined (f ∷ fs) (g ∷ gs) hs ks a b = (a.0, each_alike_joined fs gs hs ks a.1 b)

pub alike_parts_mean : (r : Run) → IsOrder r.clocks → (fs gs : List Formula) (c : Cut) → IsConsistent r.clocks c → PartsAlike fs gs → SatParts r fs c ↔ SatParts r gs c
alike_parts_mean r order [] [] c k a = (λ h. h, λ h. h)
alike_parts_mean r order [] (g ∷ gs) c k a = absurd a
alike_parts_mean r order (f ∷ fs) [] c k a = absurd a
alike_parts_mean r order (f ∷ fs) (g ∷ gs) c k a =
    let rest = alike_parts_mean r order fs gs c k a.1 in
    (λ h. ((a.0.meaning r order c k).0 h.0, rest.0 h.1), λ h. ((a.0.meaning r order c k).1 h.0, rest.1 h.1))

pub alike_disjuncts_mean : (r : Run) → IsOrder r.clocks → (fs gs : List (List Formula)) (c : Cut) → IsConsistent r.clocks c → EachAlike fs gs → SatDisjuncts r fs c ↔ SatDisjuncts r gs c
alike_disjuncts_mean r order [] [] c k a = (λ h. h, λ h. h)
alike_disjuncts_mean r order [] (g ∷ gs) c k a = absurd a
alike_disjuncts_mean r order (f ∷ fs) [] c k a = absurd a
alike_disjuncts_mean r order (f ∷ fs) (g ∷ gs) c k a =
    let here = alike_parts_mean r order f g c k a.0 in
    let rest = alike_disjuncts_mean r order fs gs c k a.1 in (
      λ h. elim h [ inl p ↦ inl (here.0 p) | inr q ↦ inr (rest.0 q) ],
      λ h. elim h [ inl p ↦ inl (here.1 p) | inr q ↦ inr (rest.1 q) ],
    )

pub alike_lengths : (fs gs : List (List Formula)) → EachAlike fs gs → length fs ≡ length gs
alike_lengths [] [] a = refl
alike_lengths [] (g ∷ gs) a = absurd a
alike_lengths (f ∷ fs) [] a = absurd a
alike_lengths (f ∷ fs) (g ∷ gs) a = ap suc (alike_lengths fs gs a.1)

-- ---- an operator over operands that mean the same

all_along : (A B C : Cut → Type 0) → ((c : Cut) → C c → A c → B c) → (c : Cut) (es : List Cut) (d : Cut) → PathIn C c es d → AllIn A c es → AllIn B c es
all_along A B C wider c [] d path all = wider c path.0 all
all_along A B C wider c (e ∷ es) d path all = (wider c path.0 all.0, all_along A B C wider e es d path.2 all.1)

some_time_too : (o : Clocks) (A B : Cut → Type 0) → ((c : Cut) → IsConsistent o c → A c → B c) → (c : Cut) → EfHolds o A c → EfHolds o B c
some_time_too o A B wider c h = (h.0, h.1, h.2, wider h.1 (path_last (IsConsistent o) c h.0 h.1 h.2) h.3)

each_time_too : (o : Clocks) (A B : Cut → Type 0) → ((c : Cut) → IsConsistent o c → A c → B c) → (c : Cut) → AgHolds o A c → AgHolds o B c
each_time_too o A B wider c h = λ es d path. all_along A B (IsConsistent o) wider c es d path (h es d path)

staying_too : (o : Clocks) (A B : Cut → Type 0) → ((c : Cut) → IsConsistent o c → A c → B c) → (c : Cut) → EgHolds o A c → EgHolds o B c
staying_too o A B wider c h = (h.0, h.1, all_along A B (IsConsistent o) wider c h.0 _ h.1 h.2)

operated_alike : (o : Operator) (f g : Formula) → MeanTheSame f g → MeanTheSame (model.Temporal (model_operator o) f) (model.Temporal (model_operator o) g)
operated_alike operator.Ef f g same r order c k = (some_time_too r.clocks (Sat r f) (Sat r g) (λ d m. (same r order d m).0) c, some_time_too r.clocks (Sat r g) (Sat r f) (λ d m. (same r order d m).1) c)
operated_alike operator.Ag f g same r order c k = (each_time_too r.clocks (Sat r f) (Sat r g) (λ d m. (same r order d m).0) c, each_time_too r.clocks (Sat r g) (Sat r f) (λ d m. (same r order d m).1) c)
operated_alike operator.Eg f g same r order c k = (staying_too r.clocks (Sat r f) (Sat r g) (λ d m. (same r order d m).0) c, staying_too r.clocks (Sat r g) (Sat r f) (λ d m. (same r order d m).1) c)
operated_alike (operator.Ex process) f g same r order c k = (λ h. h, λ h. h)
operated_alike operator.Af f g same r order c k = (λ h. h, λ h. h)
operated_alike operator.Ax f g same r order c k = (λ h. h, λ h. h)

next_too : (o : Clocks) (i : ℕ) (A B : Cut → Type 0) → ((c : Cut) → IsConsistent o c → A c → B c) → (c : Cut) → ExHolds o i A c → ExHolds o i B c
next_too o i A B wider c h = (h.0, h.1, wider (with_next c i) (path_last (IsConsistent o) c (with_next c i ∷ []) (with_next c i) h.1) h.2)

stepped_alike : (process : Name) (f g : Formula) → MeanTheSame f g → MeanTheSame (model.Next process f) (model.Next process g)
stepped_alike process f g same r order c k = (next_too r.clocks (r.process process) (Sat r f) (Sat r g) (λ d m. (same r order d m).0) c, next_too r.clocks (r.process process) (Sat r g) (Sat r f) (λ d m. (same r order d m).1) c)

all_of_parts : (r : Run) (ps : List NamedPiece) (c : Cut) → SatAll r (part_formulas (pieces ps)) c ↔ SatParts r (map part_formula ps) c
all_of_parts r [] c = (λ h. h, λ h. h)
all_of_parts r (p ∷ ps) c = let rest = all_of_parts r ps c in (λ h. (h.0, rest.0 h.1), λ h. (h.0, rest.1 h.1))

operand_means : (ps : List NamedPiece) (f : Formula) → PartsAlike (map part_formula ps) (parts true f) → MeanTheSame (model.And (part_formulas (pieces ps))) f
operand_means ps f alike r order c k =
    let all = all_of_parts r ps c in
    let same = alike_parts_mean r order (map part_formula ps) (parts true f) c k alike in
    let means = parts_mean r order f true c k in
    (λ h. means.0 (same.0 (all.0 h)), λ h. all.1 (same.1 (means.1 h)))

-- ---- local formulas

abbrev pub some_name : Option Name → Name
some_name None = []
some_name (Some p) = p

pub on_same : (q : Option Name) (name : Name) → is_on q name ≡ true → some_name q ≡ name
on_same None name h = absurd (false≢true h)
on_same (Some p) name h = (bytes_eq-Decides p name).0 h

side_named : (q : Option Name) (right : Side) → inside_walk.side_is_over q right ≡ true → side_formula (some_name q) (side_from right) ≡ model_side (plain_side right)
side_named q (side.Number value) h = refl
side_named q (side.Variable p v) h = rw (on_same q p.name h) refl

mutual
  expr_named : (q : Option Name) (n : Node) → is_over q n ≡ true → expr_formula (some_name q) (expr_from n) ≡ formula_of n
  expr_named q (leaf (atom.Truth value) at) h = refl
  expr_named q (leaf (atom.Local p v compare right) at) h =
      let both = and_parts (is_on q p.name) (inside_walk.side_is_over q right) h in
      ap (model.Comparison (some_name q) v.name (relation_of compare)) (side_named q right both.1)
      ∙ ap (λ name. model.Comparison name v.name (relation_of compare) (model_side (plain_side right))) (on_same q p.name both.0)
  expr_named q (leaf (atom.Watch p w) at) h = ap (λ name. model.Watched name w.name) (on_same q p.name h)
  expr_named q (leaf (atom.InTransit p r compare k) at) h = absurd (false≢true h)
  expr_named q (leaf (atom.Empty p r) at) h = absurd (false≢true h)
  expr_named q (leaf (atom.Difference p x r y compare k) at) h = absurd (false≢true h)
  expr_named q (negation n at) h = ap model.Not (expr_named q n h)
  expr_named q (conjunction ns at) h = ap model.And (exprs_named q ns h)
  expr_named q (disjunction ns at) h = ap model.Or (exprs_named q ns h)
  expr_named q (under o n at) h = absurd (false≢true h)
  expr_named q (stepping process n at) h = absurd (false≢true h)
  expr_named q (until_of all left right at) h = absurd (false≢true h)

  exprs_named : (q : Option Name) (ns : Nodes) → all_over q ns ≡ true → expr_formulas (some_name q) (exprs_from ns) ≡ formulas_of ns
  exprs_named q none h = refl
  exprs_named q (more n ns) h =
      let both = and_parts (is_over q n) (all_over q ns) h in
      ap (λ f. model.Cons f (expr_formulas (some_name q) (exprs_from ns))) (expr_named q n both.0) ∙ ap (model.Cons (formula_of n)) (exprs_named q ns both.1)

pub name_of_first : (on : Option Place) → some_name (option_name on) ≡ name_on on
name_of_first None = refl
name_of_first (Some p) = refl

pub local_is_over : (n : Node) → is_local (formula_of n) ≡ true → is_over (option_name (first_place (uses_of n))) n ≡ true
local_is_over n h = over_is_local n ∙ h

unsigned_formula : (n : Node) → is_local (formula_of n) ≡ true → expr_formula (name_on (first_place (uses_of n))) (expr_from n) ≡ formula_of n
unsigned_formula n h = ap (λ name. expr_formula name (expr_from n)) (sym (name_of_first (first_place (uses_of n)))) ∙ expr_named (option_name (first_place (uses_of n))) n (local_is_over n h)

pub local_formula : (sign : Bool) (n : Node) → is_local (formula_of n) ≡ true → part_formula (local_part sign n) ≡ class.signed sign (formula_of n)
local_formula true n h = unsigned_formula n h
local_formula false n h = ap model.Not (unsigned_formula n h)

model_local : (sign : Bool) (f : Formula) → is_local f ≡ true → parts sign f ≡ class.signed sign f ∷ []
unfolding is_plain parts
model_local sign (model.Truth b) h = refl
model_local sign (model.Comparison p v relation side) h = refl
model_local sign (model.Watched p w) h = refl
model_local sign (model.InTransit p q relation k) h = absurd (false≢true h)
model_local sign (model.Empty p q) h = absurd (false≢true h)
model_local sign (model.Difference p x q y relation k) h = absurd (false≢true h)
model_local sign (model.Not f) h = rw h refl
model_local true (model.And fs) h = rw h refl
model_local false (model.And fs) h = refl
model_local true (model.Or fs) h = refl
model_local false (model.Or fs) h = rw h refl
model_local sign (model.Temporal o f) h = absurd (false≢true h)
model_local sign (model.Next process f) h = absurd (false≢true h)
model_local sign (model.Until all left right) h = absurd (false≢true h)

local_alike : (sign : Bool) (n : Node) → is_local (formula_of n) ≡ true → PartsAlike (map part_formula (parts_from sign n)) (parts sign (formula_of n))
local_alike sign n h = parts_equal _ _ (ap (map part_formula) (local_parts sign n h) ∙ ap (λ f. f ∷ []) (local_formula sign n h) ∙ sym (model_local sign (formula_of n) h))

-- ---- channels

pub count_below : (k : ℕ) → nat_lt k (2 ^ 63) ≡ true → k < 2 ^ 63
count_below k h = search (rules, nat_tests)

pub next_exact : (k : ℕ) → k < 2 ^ 63 → next_count k ≡ k + 1
next_exact k h = omega arith

bounds_alike : (p q : Place) (relation : model.Relation) (k : ℕ) → k < 2 ^ 63 → class.is_unequal relation ≡ false → map part_formula (bounds p q relation k) ≡ channel_parts p.name q.name relation k
bounds_alike p q model.Equal k fits h = refl
bounds_alike p q model.Unequal k fits h = absurd (false≢true (sym h))
bounds_alike p q model.Less zero fits h = refl
bounds_alike p q model.Less (suc k) fits h = refl
bounds_alike p q model.LessOrEqual k fits h = refl
bounds_alike p q model.Greater k fits h = rw (next_exact k fits) refl
bounds_alike p q model.GreaterOrEqual k fits h = refl

pub if_none : (b : Bool) (f : FormulaFault) → (if b then Some f else None) ≡ None → b ≡ false
if_none true f h = absurd (cc)
if_none false f h = refl

pub if_bounded : (b : Bool) (f : FormulaFault) → (if b then None else Some f) ≡ None → b ≡ true
if_bounded true f h = refl
if_bounded false f h = absurd (cc)

not_true : (b : Bool) → not b ≡ true → b ≡ false
not_true true h = absurd (false≢true h)
not_true false h = refl

-- a difference without a fault is of two processes, and not compared as unequal after the sign
pub bounded : (sign : Bool) (p q : Name) (relation : model.Relation) → are_bounded sign p q relation ≡ true → (bytes_eq p q ≡ false) × (is_unequal (after_sign sign relation) ≡ false)
bounded sign p q relation h =
    let both = and_parts (not (bytes_eq p q)) (not (is_unequal (after_sign sign relation))) h in
    (not_true (bytes_eq p q) both.0, not_true (is_unequal (after_sign sign relation)) both.1)

differences_alike : (p x q y : Place) (relation : model.Relation) (k : ℤ) → is_unequal relation ≡ false
    → map part_formula (difference_bounds p x q y relation k) ≡ difference_parts p.name x.name q.name y.name relation k
differences_alike p x q y model.Equal k h = refl
differences_alike p x q y model.Unequal k h = absurd (false≢true (sym h))
differences_alike p x q y model.Less k h = refl
differences_alike p x q y model.LessOrEqual k h = refl
differences_alike p x q y model.Greater k h = refl
differences_alike p x q y model.GreaterOrEqual k h = refl

pub none_both : (a b : Option FormulaFault) → earlier a b ≡ None → (a ≡ None) × (b ≡ None)
none_both None b h = (refl, h)
none_both (Some f) b h = absurd (cc)

pub not_negative : (o : Operator) (at : ℕ) → operator_fault false o at ≡ None → ⊥
not_negative operator.Ef at h = absurd (cc)
not_negative operator.Ag at h = absurd (cc)
not_negative operator.Eg at h = absurd (cc)
not_negative (operator.Ex process) at h = absurd (cc)
not_negative operator.Af at h = absurd (cc)
not_negative operator.Ax at h = absurd (cc)

-- ---- parts

mutual
  unfolding is_plain all_plain processes all_processes parts all_parts

  pub parts_alike : (sign : Bool) (n : Node) → counts_fit n ≡ true → first_fault true sign n ≡ None → PartsAlike (map part_formula (parts_from sign n)) (parts sign (formula_of n))
  parts_alike sign (leaf (atom.Truth value) at) fits free = local_alike sign (leaf (atom.Truth value) at) refl
  parts_alike sign (leaf (atom.Local p v compare right) at) fits free = elim (cases_Bool (is_local (formula_of (leaf (atom.Local p v compare right) at)))) [
    | inl h ↦ local_alike sign (leaf (atom.Local p v compare right) at) h
    | inr h ↦ absurd (let bad = rw h at free in cc)
  ]
  parts_alike sign (leaf (atom.Watch p w) at) fits free = local_alike sign (leaf (atom.Watch p w) at) refl
  parts_alike sign (leaf (atom.InTransit p q compare k) at) fits free =
      parts_equal _ _ (bounds_alike p q (after_sign sign (relation_of compare)) k (count_below k fits) (if_none (class.is_unequal (after_sign sign (relation_of compare))) _ free))
  parts_alike true (leaf (atom.Empty p q) at) fits free = parts_alike_themselves (model.InTransit p.name q.name model.LessOrEqual 0 ∷ [])
  parts_alike false (leaf (atom.Empty p q) at) fits free = parts_alike_themselves (model.InTransit p.name q.name model.GreaterOrEqual 1 ∷ [])
  parts_alike sign (leaf (atom.Difference p x q y compare k) at) fits free =
      let are = bounded sign p.name q.name (relation_of compare) (if_bounded (are_bounded sign p.name q.name (relation_of compare)) _ free) in
      parts_equal _ _ (differences_alike p x q y (after_sign sign (relation_of compare)) k are.1)
  parts_alike sign (negation n at) fits free = elim (cases_Bool (is_local (formula_of (negation n at)))) [
    | inl h ↦ local_alike sign (negation n at) h
    | inr h ↦ rw h (parts_alike (not sign) n fits (rw h at free))
  ]
  parts_alike true (conjunction ns at) fits free = elim (cases_Bool (is_local (formula_of (conjunction ns at)))) [
    | inl h ↦ local_alike true (conjunction ns at) h
    | inr h ↦ rw h (all_parts_alike true ns fits (rw h at free))
  ]
  parts_alike false (conjunction ns at) fits free = elim (cases_Bool (is_local (formula_of (conjunction ns at)))) [
    | inl h ↦ local_alike false (conjunction ns at) h
    | inr h ↦ absurd (let bad = rw h at free in cc)
  ]
  parts_alike true (disjunction ns at) fits free = elim (cases_Bool (is_local (formula_of (disjunction ns at)))) [
    | inl h ↦ local_alike true (disjunction ns at) h
    | inr h ↦ absurd (let bad = rw h at free in cc)
  ]
  parts_alike false (disjunction ns at) fits free = elim (cases_Bool (is_local (formula_of (disjunction ns at)))) [
    | inl h ↦ local_alike false (disjunction ns at) h
    | inr h ↦ rw h (all_parts_alike false ns fits (rw h at free))
  ]
  parts_alike true (under o n at) fits free =
      let both = none_both (operator_fault true o at) (first_fault true true n) free in
      let same = operand_means (parts_from true n) (formula_of n) (parts_alike true n fits both.1) in
      (record { head = (refl, same); meaning = operated_alike o _ (formula_of n) same }, tt)
  parts_alike false (under o n at) fits free = absurd (not_negative o at (none_both (operator_fault false o at) (first_fault true true n) free).0)
  parts_alike true (stepping process n at) fits free =
      let same = operand_means (parts_from true n) (formula_of n) (parts_alike true n fits free) in
      (record { head = (refl, same); meaning = stepped_alike process.name (model.And (part_formulas (pieces (parts_from true n)))) (formula_of n) same }, tt)
  parts_alike false (stepping process n at) fits free = absurd (cc)
  parts_alike sign (until_of all left right at) fits free = absurd (cc)

  all_parts_alike : (sign : Bool) (ns : Nodes) → all_counts_fit ns ≡ true → first_of true sign ns ≡ None → PartsAlike (map part_formula (walk.all_parts sign ns)) (all_parts sign (formulas_of ns))
  all_parts_alike sign none fits free = tt
  all_parts_alike sign (more n ns) fits free =
      let both = and_parts (counts_fit n) (all_counts_fit ns) fits in
      let frees = none_both (first_fault true sign n) (first_of true sign ns) free in
      rw (map-append part_formula (parts_from sign n) (walk.all_parts sign ns))
      (parts_alike_joined _ (parts sign (formula_of n)) _ (all_parts sign (formulas_of ns)) (parts_alike sign n both.0 frees.0) (all_parts_alike sign ns both.1 frees.1))

-- ---- disjuncts

one_alike : (sign : Bool) (n : Node) → counts_fit n ≡ true → first_fault true sign n ≡ None → EachAlike (disjunct_formulas (parts_from sign n ∷ [])) (parts sign (formula_of n) ∷ [])
one_alike sign n fits free = (parts_alike sign n fits free, tt)

model_local_disjuncts : (sign : Bool) (f : Formula) → is_local f ≡ true → disjuncts sign f ≡ parts sign f ∷ []
unfolding is_plain disjuncts
model_local_disjuncts sign (model.Truth b) h = refl
model_local_disjuncts sign (model.Comparison p v relation side) h = refl
model_local_disjuncts sign (model.Watched p w) h = refl
model_local_disjuncts sign (model.InTransit p q relation k) h = refl
model_local_disjuncts sign (model.Empty p q) h = refl
model_local_disjuncts sign (model.Difference p x q y relation k) h = refl
model_local_disjuncts sign (model.Not f) h = rw h refl
model_local_disjuncts true (model.And fs) h = refl
model_local_disjuncts false (model.And fs) h = rw h refl
model_local_disjuncts true (model.Or fs) h = rw h refl
model_local_disjuncts false (model.Or fs) h = refl
model_local_disjuncts sign (model.Temporal o f) h = refl
model_local_disjuncts sign (model.Next process f) h = refl
model_local_disjuncts sign (model.Until all left right) h = refl

local_disjuncts_alike : (sign : Bool) (n : Node) → is_local (formula_of n) ≡ true → EachAlike (disjunct_formulas (disjuncts_from sign n)) (disjuncts sign (formula_of n))
local_disjuncts_alike sign n h =
    rw (local_disjuncts sign n h, model_local_disjuncts sign (formula_of n) h)
    (let alike = local_alike sign n h in rw (local_parts sign n h) at alike, tt)

mutual
  unfolding is_plain all_plain processes all_processes disjuncts all_disjuncts

  pub disjuncts_alike : (sign : Bool) (n : Node) → counts_fit n ≡ true → first_fault false sign n ≡ None → EachAlike (disjunct_formulas (disjuncts_from sign n)) (disjuncts sign (formula_of n))
  disjuncts_alike sign (leaf (atom.Truth value) at) fits free = one_alike sign (leaf (atom.Truth value) at) fits free
  disjuncts_alike sign (leaf (atom.Local p v compare right) at) fits free = one_alike sign (leaf (atom.Local p v compare right) at) fits free
  disjuncts_alike sign (leaf (atom.Watch p w) at) fits free = one_alike sign (leaf (atom.Watch p w) at) fits free
  disjuncts_alike sign (leaf (atom.InTransit p q compare k) at) fits free = one_alike sign (leaf (atom.InTransit p q compare k) at) fits free
  disjuncts_alike sign (leaf (atom.Empty p q) at) fits free = one_alike sign (leaf (atom.Empty p q) at) fits free
  disjuncts_alike sign (leaf (atom.Difference p x q y compare k) at) fits free = one_alike sign (leaf (atom.Difference p x q y compare k) at) fits free
  disjuncts_alike sign (negation n at) fits free = elim (cases_Bool (is_local (formula_of (negation n at)))) [
    | inl h ↦ local_disjuncts_alike sign (negation n at) h
    | inr h ↦ rw h (disjuncts_alike (not sign) n fits (rw h at free))
  ]
  disjuncts_alike true (conjunction ns at) fits free = one_alike true (conjunction ns at) fits free
  disjuncts_alike false (conjunction ns at) fits free = elim (cases_Bool (is_local (formula_of (conjunction ns at)))) [
    | inl h ↦ local_disjuncts_alike false (conjunction ns at) h
    | inr h ↦ rw h (all_disjuncts_alike false ns fits (rw h at free))
  ]
  disjuncts_alike true (disjunction ns at) fits free = elim (cases_Bool (is_local (formula_of (disjunction ns at)))) [
    | inl h ↦ local_disjuncts_alike true (disjunction ns at) h
    | inr h ↦ rw h (all_disjuncts_alike true ns fits (rw h at free))
  ]
  disjuncts_alike false (disjunction ns at) fits free = one_alike false (disjunction ns at) fits free
  disjuncts_alike sign (under o n at) fits free = one_alike sign (under o n at) fits free
  disjuncts_alike sign (stepping process n at) fits free = one_alike sign (stepping process n at) fits free
  disjuncts_alike sign (until_of all left right at) fits free = absurd (cc)

  all_disjuncts_alike : (sign : Bool) (ns : Nodes) → all_counts_fit ns ≡ true → first_of false sign ns ≡ None → EachAlike (disjunct_formulas (walk.all_disjuncts sign ns)) (all_disjuncts sign (formulas_of ns))
  all_disjuncts_alike sign none fits free = tt
  all_disjuncts_alike sign (more n ns) fits free =
      let both = and_parts (counts_fit n) (all_counts_fit ns) fits in
      let frees = none_both (first_fault false sign n) (first_of false sign ns) free in
      rw (map-append (map part_formula) (disjuncts_from sign n) (walk.all_disjuncts sign ns))
      (each_alike_joined _ (disjuncts sign (formula_of n)) _ (all_disjuncts sign (formulas_of ns)) (disjuncts_alike sign n both.0 frees.0) (all_disjuncts_alike sign ns both.1 frees.1))
