-- The parts and the disjuncts of a formula of the class, by names and with their places.
-- ---- local formulas
use Rattle.std.specs.Prelude.{ℕ, zero, suc, ◌+◌, ◌-◌, ◌^◌, min, Bool, true, false, not, List}
use Rattle.std.specs.Prelude.{[], ◌∷◌, ◌++◌, Option, None, Some, if◌then◌else◌, ℤ, pos}
use Rattle.std.specs.Prelude.{◌-ℤ◌, ◌+ℤ◌}
use Rattle.run_model.specs.Class.{is_local, after_sign}
use Rattle.run_model.specs.Formula as model
use Rattle.rctl_grammar.specs.declared.tree.Place.{Place}
use Rattle.rctl_grammar.specs.declared.tree.Side.{Side}
use Rattle.rctl_grammar.specs.declared.tree.Side.TheVariants as side
use Rattle.rctl_grammar.specs.declared.tree.Atom.{Atom}
use Rattle.rctl_grammar.specs.declared.tree.Atom.TheVariants as atom
use Rattle.rctl_grammar.specs.Shape.{relation_of}
use Rattle.rctl_class.specs.declared.named.NamedSide.{NamedSide}
use Rattle.rctl_class.specs.declared.named.NamedSide.TheVariants as named_side
use Rattle.rctl_class.specs.Nodes.{Node, Nodes, leaf, negation, conjunction, disjunction, under}
use Rattle.rctl_class.specs.Nodes.{stepping, until_of, none, more, formula_of}
use Rattle.rctl_class.specs.Uses as used
use Rattle.rctl_class.specs.Uses.{Use, uses_of}
use Rattle.rctl_class.specs.NamedParts as named
use Rattle.rctl_class.specs.NamedParts.{Expr, Exprs, NamedPiece}

-- the place of the first name of a process
abbrev pub first_place : List Use → Option Place
first_place [] = None
first_place (used.process p ∷ us) = Some p
first_place (used.variable p v ∷ us) = first_place us
first_place (used.watch p w ∷ us) = first_place us

-- the right side without its process
abbrev pub side_from : Side → NamedSide
side_from (side.Number value) = named_side.Number value
side_from (side.Variable q v) = named_side.Variable v

-- the expression of a leaf. What is no local formula has none, and false stands for it
abbrev pub atom_expr : Atom → Expr
atom_expr (atom.Truth value) = named.truth value
atom_expr (atom.Local q v compare right) = named.comparison v compare (side_from right)
atom_expr (atom.Watch q w) = named.watched w
atom_expr (atom.InTransit sender receiver compare k) = named.truth false
atom_expr (atom.Empty sender receiver) = named.truth false
atom_expr (atom.Difference left_process left right_process right compare k) = named.truth false

abbrev mutual
  -- the expression of a local formula
  pub expr_from : Node → Expr
  expr_from (leaf a at) = atom_expr a
  expr_from (negation n at) = named.negation (expr_from n)
  expr_from (conjunction ns at) = named.conjunction (exprs_from ns)
  expr_from (disjunction ns at) = named.disjunction (exprs_from ns)
  expr_from (under operator n at) = named.truth false
  expr_from (stepping process n at) = named.truth false
  expr_from (until_of all left right at) = named.truth false

  -- those of members
  pub exprs_from : Nodes → Exprs
  exprs_from none = named.no_expr
  exprs_from (more n ns) = named.and_expr (expr_from n) (exprs_from ns)

-- the expression, negated where the sign is
abbrev pub signed : Bool → Expr → Expr
signed sign e = if sign then e else named.negation e

-- the part that a local formula with this sign is
abbrev pub local_part : Bool → Node → NamedPiece
local_part sign n = named.local (first_place (uses_of n)) (signed sign (expr_from n))

-- ---- channels

-- 1 more, within 64 bits. A number that was read is below 2^63
abbrev pub next_count : ℕ → ℕ
next_count k = min (k + 1) (2 ^ 64 - 1)

-- fewer than k
abbrev pub fewer_than : Place → Place → ℕ → List NamedPiece
fewer_than p q zero = named.never p q ∷ []
fewer_than p q (suc k) = named.at_most p q k ∷ []

-- the bounds that a comparison of the messages under way says, and none for "unequal"
abbrev pub bounds : Place → Place → model.Relation → ℕ → List NamedPiece
bounds p q model.Equal k = named.at_most p q k ∷ named.at_least p q k ∷ []
bounds p q model.Unequal k = []
bounds p q model.Less k = fewer_than p q k
bounds p q model.LessOrEqual k = named.at_most p q k ∷ []
bounds p q model.Greater k = named.at_least p q (next_count k) ∷ []
bounds p q model.GreaterOrEqual k = named.at_least p q k ∷ []

-- no message is under way, or some is
abbrev pub empty_bound : Bool → Place → Place → NamedPiece
empty_bound sign p q = if sign then named.at_most p q 0 else named.at_least p q 1

-- the bounds that a comparison of a difference says, and none for "unequal"
abbrev pub difference_bounds : Place → Place → Place → Place → model.Relation → ℤ → List NamedPiece
difference_bounds p x q y model.Equal k =
    named.diff_at_most p x q y k ∷ named.diff_at_least p x q y k ∷ []
difference_bounds p x q y model.Unequal k = []
difference_bounds p x q y model.Less k = named.diff_at_most p x q y (k -ℤ pos 1) ∷ []
difference_bounds p x q y model.LessOrEqual k = named.diff_at_most p x q y k ∷ []
difference_bounds p x q y model.Greater k = named.diff_at_least p x q y (k +ℤ pos 1) ∷ []
difference_bounds p x q y model.GreaterOrEqual k = named.diff_at_least p x q y k ∷ []

-- the parts of a leaf with this sign that isn't local
abbrev pub channel_parts : Bool → Atom → List NamedPiece
channel_parts sign (atom.Truth value) = []
channel_parts sign (atom.Local q v compare right) = []
channel_parts sign (atom.Watch q w) = []
channel_parts sign (atom.InTransit p q compare k) =
    bounds p q (after_sign sign (relation_of compare)) k
channel_parts sign (atom.Empty p q) = empty_bound sign p q ∷ []
channel_parts sign (atom.Difference p x q y compare k) =
    difference_bounds p x q y (after_sign sign (relation_of compare)) k

-- ---- parts and disjuncts

-- a local formula is one part
abbrev pub or_local : Bool → Node → List NamedPiece → List NamedPiece
or_local sign n others = if is_local (formula_of n) then local_part sign n ∷ [] else others

abbrev mutual
  -- the parts of the formula with this sign, where it is a conjunction of regular parts
  pub parts_from : Bool → Node → List NamedPiece
  parts_from sign (leaf a at) = or_local sign (leaf a at) (channel_parts sign a)
  parts_from sign (negation n at) = or_local sign (negation n at) (parts_from (not sign) n)
  parts_from true (conjunction ns at) = or_local true (conjunction ns at) (all_parts true ns)
  parts_from false (conjunction ns at) = or_local false (conjunction ns at) []
  parts_from true (disjunction ns at) = or_local true (disjunction ns at) []
  parts_from false (disjunction ns at) = or_local false (disjunction ns at) (all_parts false ns)
  parts_from sign (under operator n at) =
      named.temporal operator (named.pieces (parts_from true n)) ∷ []
  parts_from sign (stepping process n at) =
      named.next process (named.pieces (parts_from true n)) ∷ []
  parts_from sign (until_of all left right at) = []

  -- those of members, one after the other
  pub all_parts : Bool → Nodes → List NamedPiece
  all_parts sign none = []
  all_parts sign (more n ns) = parts_from sign n ++ all_parts sign ns

-- a local formula is one disjunct of one part
abbrev pub or_one_local : Bool → Node → List (List NamedPiece) → List (List NamedPiece)
or_one_local sign n others =
    if is_local (formula_of n) then (local_part sign n ∷ []) ∷ [] else others

abbrev mutual
  -- the disjuncts of the formula with this sign, where it is a disjunction of such conjunctions
  pub disjuncts_from : Bool → Node → List (List NamedPiece)
  disjuncts_from sign (leaf a at) = parts_from sign (leaf a at) ∷ []
  disjuncts_from sign (negation n at) =
      or_one_local sign (negation n at) (disjuncts_from (not sign) n)
  disjuncts_from true (conjunction ns at) = parts_from true (conjunction ns at) ∷ []
  disjuncts_from false (conjunction ns at) =
      or_one_local false (conjunction ns at) (all_disjuncts false ns)
  disjuncts_from true (disjunction ns at) =
      or_one_local true (disjunction ns at) (all_disjuncts true ns)
  disjuncts_from false (disjunction ns at) = parts_from false (disjunction ns at) ∷ []
  disjuncts_from sign (under operator n at) = parts_from sign (under operator n at) ∷ []
  disjuncts_from sign (stepping process n at) = parts_from sign (stepping process n at) ∷ []
  disjuncts_from sign (until_of all left right at) = []

  -- those of members, one after the other
  pub all_disjuncts : Bool → Nodes → List (List NamedPiece)
  all_disjuncts sign none = []
  all_disjuncts sign (more n ns) = disjuncts_from sign n ++ all_disjuncts sign ns
