-- A formula is local exactly where it is over the process that it names first.
use Rattle.std.proofs.Common.{◌≡◌, ℕ, ℤ, Bool, true, false, ◌&&◌, List, [], ◌∷◌, ◌++◌, Option, None, Some, sym, ap, refl, ◌∙◌, subst}
use Rattle.std.specs.List.{list_all}
use Rattle.std.proofs.lemmas.Slice.Eq.{bytes_eq-Decides}
use Rattle.run_model.specs.Run.{Name}
use Rattle.run_model.specs.Class.{is_plain, all_plain, processes, all_processes, is_local, is_one_name}
use Rattle.rctl_grammar.specs.declared.tree.Place.{Place}
use Rattle.rctl_grammar.specs.declared.tree.Side.TheVariants as side
use Rattle.rctl_grammar.specs.declared.tree.Atom.{Atom}
use Rattle.rctl_grammar.specs.declared.tree.Atom.TheVariants as atom
use Rattle.rctl_class.specs.Nodes.{Node, Nodes, leaf, negation, conjunction, disjunction, under, stepping, until_of, none, more, formula_of, formulas_of}
use Rattle.rctl_class.specs.Uses as used
use Rattle.rctl_class.specs.Uses.{Use, all_uses, uses_of}
use Rattle.std.specs.Borrow.{Bor}
use Rattle.rctl_class.specs.inside.Seen.{place_seen, name_seen, some_if}
use Rattle.rctl_class.specs.Faults.{atom_fault, first_fault, negated_fault, operator_fault}
use Rattle.rctl_grammar.specs.declared.tree.Operator.{Operator}
use Rattle.rctl_class.specs.declared.named.NamedPart.{NamedPart}
use Rattle.rctl_class.specs.declared.named.NamedPart.TheVariants as part
use Rattle.std.proofs.lemmas.Bool.{false≢true}
use Rattle.std.proofs.lemmas.List.{map-append}
use Rattle.rctl_class.proofs.Folds.{piece-DiffAtMost, piece-DiffAtLeast, piece-Temporal, piece-Next}
use Rattle.rctl_class.specs.NamedParts as named
use Rattle.rctl_class.specs.NamedParts.{Expr, NamedPiece, piece_of, pieces_of}
use Rattle.rctl_class.specs.Walk.{first_place, expr_from, signed, local_part, channel_parts}
use Rattle.rctl_class.specs.Walk.{parts_from, disjuncts_from}
use Rattle.rctl_class.specs.inside.Walk.{is_on, is_over, all_over}

-- the names of processes among the names
abbrev pub process_names : List Use → List Name
process_names [] = []
process_names (used.process p ∷ us) = p.name ∷ process_names us
process_names (used.variable p v ∷ us) = process_names us
process_names (used.watch p w ∷ us) = process_names us

pub names_joined : (us vs : List Use) → process_names (us ++ vs) ≡ process_names us ++ process_names vs
names_joined [] vs = refl
names_joined (used.process p ∷ us) vs = ap (λ ns. p.name ∷ ns) (names_joined us vs)
names_joined (used.variable p v ∷ us) vs = names_joined us vs
names_joined (used.watch p w ∷ us) vs = names_joined us vs

mutual
  unfolding processes all_processes

  pub processes_named : (n : Node) → processes (formula_of n) ≡ process_names (uses_of n)
  processes_named (leaf (atom.Truth value) at) = refl
  processes_named (leaf (atom.Local p v compare (side.Number value)) at) = refl
  processes_named (leaf (atom.Local p v compare (side.Variable q w)) at) = refl
  processes_named (leaf (atom.Watch p w) at) = refl
  processes_named (leaf (atom.InTransit p q compare k) at) = refl
  processes_named (leaf (atom.Empty p q) at) = refl
  processes_named (leaf (atom.Difference p x q y compare k) at) = refl
  processes_named (negation n at) = processes_named n
  processes_named (conjunction ns at) = all_named ns
  processes_named (disjunction ns at) = all_named ns
  processes_named (under operator n at) = processes_named n
  processes_named (stepping process n at) = ap (λ ns. process.name ∷ ns) (processes_named n)
  processes_named (until_of all left right at) = rw (processes_named left, processes_named right) (sym (names_joined (uses_of left) (uses_of right)))

  all_named : (ns : Nodes) → all_processes (formulas_of ns) ≡ process_names (all_uses ns)
  all_named none = refl
  all_named (more n ns) = rw (processes_named n, all_named ns) (sym (names_joined (uses_of n) (all_uses ns)))

pub and_assoc : (a b c : Bool) → (a && b) && c ≡ a && (b && c)
and_assoc true b c = refl
and_assoc false b c = refl

pub and_true : (a : Bool) → a && true ≡ a
and_true true = refl
and_true false = refl

pub and_swapped : (a b c d : Bool) → (a && b) && (c && d) ≡ (a && c) && (b && d)
and_swapped true true c d = refl
and_swapped true false true d = refl
and_swapped true false false d = refl
and_swapped false b c d = refl

all_joined : (test : Name → Bool) (xs ys : List Name) → list_all test (xs ++ ys) ≡ list_all test xs && list_all test ys
all_joined test [] ys = refl
all_joined test (x ∷ xs) ys = rw (all_joined test xs ys) (sym (and_assoc (test x) (list_all test xs) (list_all test ys)))

-- over a process: plain, and each name is that of the process
mutual
  unfolding is_plain all_plain processes all_processes

  pub over_plain : (p : Option Name) (n : Node) → is_over p n ≡ is_plain (formula_of n) && list_all (is_on p) (processes (formula_of n))
  over_plain p (leaf (atom.Truth value) at) = refl
  over_plain p (leaf (atom.Local q v compare (side.Number value)) at) = refl
  over_plain p (leaf (atom.Local q v compare (side.Variable r w)) at) = ap (λ b. is_on p q.name && b) (sym (and_true (is_on p r.name)))
  over_plain p (leaf (atom.Watch q w) at) = sym (and_true (is_on p q.name))
  over_plain p (leaf (atom.InTransit q r compare k) at) = refl
  over_plain p (leaf (atom.Empty q r) at) = refl
  over_plain p (leaf (atom.Difference q x r y compare k) at) = refl
  over_plain p (negation n at) = over_plain p n
  over_plain p (conjunction ns at) = all_over_plain p ns
  over_plain p (disjunction ns at) = all_over_plain p ns
  over_plain p (under operator n at) = refl
  over_plain p (stepping process n at) = refl
  over_plain p (until_of all left right at) = refl

  all_over_plain : (p : Option Name) (ns : Nodes) → all_over p ns ≡ all_plain (formulas_of ns) && list_all (is_on p) (all_processes (formulas_of ns))
  all_over_plain p none = refl
  all_over_plain p (more n ns) =
      rw (over_plain p n, all_over_plain p ns, all_joined (is_on p) (processes (formula_of n)) (all_processes (formulas_of ns)))
      (and_swapped (is_plain (formula_of n)) (list_all (is_on p) (processes (formula_of n))) (all_plain (formulas_of ns)) (list_all (is_on p) (all_processes (formulas_of ns))))

abbrev pub option_name : Option Place → Option Name
option_name None = None
option_name (Some p) = Some p.name

abbrev head_of : List Name → Option Name
head_of [] = None
head_of (n ∷ ns) = Some n

-- the first name of a process
first_name : (us : List Use) → option_name (first_place us) ≡ head_of (process_names us)
first_name [] = refl
first_name (used.process p ∷ us) = refl
first_name (used.variable p v ∷ us) = first_name us
first_name (used.watch p w ∷ us) = first_name us

one_name : (names : List Name) → is_one_name names ≡ list_all (is_on (head_of names)) names
one_name [] = refl
one_name (n ∷ ns) = rw ((bytes_eq-Decides n n).1 refl) refl

pub over_is_local : (n : Node) → is_over (option_name (first_place (uses_of n))) n ≡ is_local (formula_of n)
over_is_local n = over_plain (option_name (first_place (uses_of n))) n
    ∙ ap (λ p. is_plain (formula_of n) && list_all (is_on p) (processes (formula_of n))) (first_name (uses_of n) ∙ ap head_of (sym (processes_named n)))
    ∙ ap (λ b. is_plain (formula_of n) && b) (sym (one_name (processes (formula_of n))))

named_seen : (r : Option (Bor Place)) → name_seen r ≡ option_name (place_seen r)
named_seen None = refl
named_seen (Some p) = refl

-- the test of a tree over the process that it names first
pub local_test : (r : Option (Bor Place)) (n : Node) → place_seen r ≡ first_place (uses_of n) → is_over (name_seen r) n ≡ is_local (formula_of n)
local_test r n first = ap (λ p. is_over p n) (named_seen r ∙ ap option_name first) ∙ over_is_local n

-- ---- what there is exactly where a test holds

pub absent : {A : Type 0} (test : Bool) (x : A) → None ≡ some_if test x → test ≡ false
absent true x h = absurd (cc)
absent false x h = refl

pub present : {A : Type 0} (test : Bool) (x y : A) → Some y ≡ some_if test x → (test ≡ true) × (y ≡ x)
present true x y h = (refl, cc)
present false x y h = absurd (cc)

-- ---- local formulas in the walk

pub local_free : (inside sign : Bool) (n : Node) → is_local (formula_of n) ≡ true → first_fault inside sign n ≡ None
unfolding is_plain
local_free inside sign (leaf a at) h = rw h refl
local_free inside sign (negation n at) h = rw h refl
local_free inside true (conjunction ns at) h = rw h refl
local_free inside false (conjunction ns at) h = rw h refl
local_free inside true (disjunction ns at) h = rw h refl
local_free inside false (disjunction ns at) h = rw h refl
local_free inside sign (under operator n at) h = absurd (false≢true h)
local_free inside sign (stepping process n at) h = absurd (false≢true h)
local_free inside sign (until_of all left right at) h = absurd (false≢true h)

pub local_parts : (sign : Bool) (n : Node) → is_local (formula_of n) ≡ true → parts_from sign n ≡ local_part sign n ∷ []
unfolding is_plain
local_parts sign (leaf a at) h = rw h refl
local_parts sign (negation n at) h = rw h refl
local_parts true (conjunction ns at) h = rw h refl
local_parts false (conjunction ns at) h = rw h refl
local_parts true (disjunction ns at) h = rw h refl
local_parts false (disjunction ns at) h = rw h refl
local_parts sign (under operator n at) h = absurd (false≢true h)
local_parts sign (stepping process n at) h = absurd (false≢true h)
local_parts sign (until_of all left right at) h = absurd (false≢true h)

pub local_disjuncts : (sign : Bool) (n : Node) → is_local (formula_of n) ≡ true → disjuncts_from sign n ≡ (local_part sign n ∷ []) ∷ []
unfolding is_plain
local_disjuncts sign (leaf a at) h = ap (λ ps. ps ∷ []) (local_parts sign (leaf a at) h)
local_disjuncts sign (negation n at) h = rw h refl
local_disjuncts true (conjunction ns at) h = ap (λ ps. ps ∷ []) (local_parts true (conjunction ns at) h)
local_disjuncts false (conjunction ns at) h = rw h refl
local_disjuncts true (disjunction ns at) h = rw h refl
local_disjuncts false (disjunction ns at) h = ap (λ ps. ps ∷ []) (local_parts false (disjunction ns at) h)
local_disjuncts sign (under operator n at) h = absurd (false≢true h)
local_disjuncts sign (stepping process n at) h = absurd (false≢true h)
local_disjuncts sign (until_of all left right at) h = absurd (false≢true h)

-- ---- what the code makes of them

pub made_local : (sign : Bool) (n : Node) {on : Option Place} {e signed_e : Expr} {p : NamedPiece} → p ≡ named.local on signed_e → on ≡ first_place (uses_of n) →
    signed_e ≡ signed sign e → e ≡ expr_from n → p ≡ local_part sign n
made_local sign n is on over from = is ∙ rw (on, over, from) refl

pub at_most_made : {p x q y p' x' q' y' : Place} {k k' : ℤ} → p' ≡ p → x' ≡ x → q' ≡ q → y' ≡ y → k' ≡ k → piece_of (part.DiffAtMost p' x' q' y' k') ≡ named.diff_at_most p x q y k
at_most_made a b c d e = piece-DiffAtMost _ _ _ _ _ ∙ rw (a, b, c, d, e) refl

pub at_least_made : {p x q y p' x' q' y' : Place} {k k' : ℤ} → p' ≡ p → x' ≡ x → q' ≡ q → y' ≡ y → k' ≡ k → piece_of (part.DiffAtLeast p' x' q' y' k') ≡ named.diff_at_least p x q y k
at_least_made a b c d e = piece-DiffAtLeast _ _ _ _ _ ∙ rw (a, b, c, d, e) refl

-- a leaf that isn't local has its own fault, and its own parts
pub leaf_alone : (sign : Bool) (a : Atom) (at : ℕ) (m : Node) → m ≡ leaf a at → is_local (formula_of m) ≡ false → (first_fault true sign m ≡ atom_fault sign a at) × (parts_from sign m ≡ channel_parts sign a)
leaf_alone sign a at m is other =
    let P : Node → Type 0 = λ n. is_local (formula_of n) ≡ false → (first_fault true sign n ≡ atom_fault sign a at) × (parts_from sign n ≡ channel_parts sign a) in
    subst P (sym is) (λ h. (rw h refl, rw h refl)) other

-- an operator over an operand that was walked
pub under_made : (sign : Bool) (operator : Operator) (at : ℕ) (m n : Node) (old start operand : List NamedPart) {new : List NamedPart} → m ≡ under operator n at →
    operator_fault sign operator at ≡ None → first_fault true true n ≡ None → start ≡ [] → pieces_of operand ≡ pieces_of start ++ parts_from true n →
    new ≡ old ++ part.Temporal operator operand ∷ [] → (first_fault true sign m ≡ None) × (pieces_of new ≡ pieces_of old ++ parts_from sign m)
under_made sign operator at m n old start operand is judged free nothing walked pushed =
    let operands : pieces_of operand ≡ parts_from true n = walked ∙ rw nothing refl in (
      rw (is, judged, free) refl,
      ap pieces_of pushed ∙ map-append piece_of old (part.Temporal operator operand ∷ [])
          ∙ ap (λ p. pieces_of old ++ p ∷ []) (piece-Temporal operator operand)
          ∙ ap (λ ps. pieces_of old ++ named.temporal operator (named.pieces ps) ∷ []) operands
          ∙ ap (λ k. pieces_of old ++ parts_from sign k) (sym is),
    )

-- the next event of a process before an operand that was walked
pub next_made : (sign : Bool) (process : Place) (at : ℕ) (m n : Node) (old start operand : List NamedPart) {new : List NamedPart} {copy : Place} → m ≡ stepping process n at →
    negated_fault sign at ≡ None → first_fault true true n ≡ None → start ≡ [] → pieces_of operand ≡ pieces_of start ++ parts_from true n → copy ≡ process →
    new ≡ old ++ part.Next copy operand ∷ [] → (first_fault true sign m ≡ None) × (pieces_of new ≡ pieces_of old ++ parts_from sign m)
next_made sign process at m n old start operand {new} {copy} is judged free nothing walked copied pushed =
    let operands : pieces_of operand ≡ parts_from true n = walked ∙ rw nothing refl in (
      rw (is, judged, free) refl,
      ap pieces_of pushed ∙ map-append piece_of old (part.Next copy operand ∷ [])
          ∙ ap (λ p. pieces_of old ++ p ∷ []) (piece-Next copy operand)
          ∙ ap (λ p. pieces_of old ++ named.next p (named.pieces (pieces_of operand)) ∷ []) copied
          ∙ ap (λ ps. pieces_of old ++ named.next process (named.pieces ps) ∷ []) operands
          ∙ ap (λ k. pieces_of old ++ parts_from sign k) (sym is),
    )
