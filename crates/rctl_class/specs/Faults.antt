-- The first fault of a formula that lies outside the class: what is wrong with one node, and the
-- order in which nodes are judged.
use Rattle.std.specs.Prelude.{ℕ, Bool, true, false, not, Option, None, if◌then◌else◌}
use Rattle.run_model.specs.Class.{is_local, is_unequal, after_sign, are_bounded}
use Rattle.rctl_grammar.specs.declared.fault.Outside.{Outside}
use Rattle.rctl_grammar.specs.declared.fault.Outside.TheVariants as outside
use Rattle.rctl_grammar.specs.declared.fault.FormulaCode.TheVariants as code
use Rattle.rctl_grammar.specs.declared.fault.FormulaFault.{FormulaFault}
use Rattle.rctl_grammar.specs.declared.tree.Operator.{Operator}
use Rattle.rctl_grammar.specs.declared.tree.Operator.TheVariants as operator
use Rattle.rctl_grammar.specs.declared.tree.Atom.{Atom}
use Rattle.rctl_grammar.specs.declared.tree.Atom.TheVariants as atom
use Rattle.rctl_grammar.specs.Shape.{relation_of}
use Rattle.rctl_class.specs.Nodes.{Node, Nodes, leaf, negation, conjunction, disjunction, under}
use Rattle.rctl_class.specs.Nodes.{stepping, until_of, none, more, formula_of}
use Rattle.rctl_class.specs.Uses.{earlier, fault_at}

-- ---- what is wrong with one node that isn't local

-- a comparison is of two processes, messages under way or a difference are compared as unequal after
-- the sign, and a difference is of one process
abbrev pub atom_fault : Bool → Atom → ℕ → Option FormulaFault
atom_fault sign (atom.Truth value) at = None
atom_fault sign (atom.Local process variable compare right) at = fault_at code.NotRegular at
atom_fault sign (atom.Watch process watch) at = None
atom_fault sign (atom.InTransit sender receiver compare k) at =
    if is_unequal (after_sign sign (relation_of compare)) then fault_at code.NotRegular at else None
atom_fault sign (atom.Empty sender receiver) at = None
atom_fault sign (atom.Difference p x q y compare k) at =
    if are_bounded sign p.name q.name (relation_of compare) then None
    else fault_at code.NotRegular at

-- a disjunction stands inside
abbrev pub inside_fault : Bool → ℕ → Option FormulaFault
inside_fault inside at = if inside then fault_at code.DisjunctionInside at else None

-- an analysed operator is negated
abbrev pub negated_fault : Bool → ℕ → Option FormulaFault
negated_fault sign at = if sign then None else fault_at code.NotRegular at

-- so of the analysed ones, and the others are outside the class whatever the sign. No tree has the
-- operator of a process's number
abbrev pub operator_fault : Bool → Operator → ℕ → Option FormulaFault
operator_fault sign operator.Ef at = negated_fault sign at
operator_fault sign operator.Ag at = negated_fault sign at
operator_fault sign operator.Eg at = negated_fault sign at
operator_fault sign (operator.Ex process) at = fault_at (code.OutsideClass outside.Ax) at
operator_fault sign operator.Af at = fault_at (code.OutsideClass outside.Af) at
operator_fault sign operator.Ax at = fault_at (code.OutsideClass outside.Ax) at

-- on all paths, or on some path
abbrev pub until_code : Bool → Outside
until_code true = outside.Au
until_code false = outside.Eu

-- ---- the order: a node before its members, members from left to right

-- a local formula has no fault
abbrev pub unless_local : Node → Option FormulaFault → Option FormulaFault
unless_local n fault = if is_local (formula_of n) then None else fault

abbrev mutual
  -- the first fault of the formula with this sign, which stands inside an operand or a conjunction
  -- or does not
  pub first_fault : Bool → Bool → Node → Option FormulaFault
  first_fault inside sign (leaf a at) = unless_local (leaf a at) (atom_fault sign a at)
  first_fault inside sign (negation n at) =
      unless_local (negation n at) (first_fault inside (not sign) n)
  first_fault inside true (conjunction ns at) =
      unless_local (conjunction ns at) (first_of true true ns)
  first_fault inside false (conjunction ns at) =
      unless_local (conjunction ns at) (earlier (inside_fault inside at) (first_of inside false ns))
  first_fault inside true (disjunction ns at) =
      unless_local (disjunction ns at) (earlier (inside_fault inside at) (first_of inside true ns))
  first_fault inside false (disjunction ns at) =
      unless_local (disjunction ns at) (first_of true false ns)
  first_fault inside sign (under operator n at) =
      earlier (operator_fault sign operator at) (first_fault true true n)
  first_fault inside sign (stepping process n at) =
      earlier (negated_fault sign at) (first_fault true true n)
  first_fault inside sign (until_of all left right at) =
      fault_at (code.OutsideClass (until_code all)) at

  -- the first fault of members, from left to right
  pub first_of : Bool → Bool → Nodes → Option FormulaFault
  first_of inside sign none = None
  first_of inside sign (more n ns) = earlier (first_fault inside sign n) (first_of inside sign ns)
