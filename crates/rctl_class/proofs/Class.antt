-- A formula has no fault exactly where it is of the class.
use Rattle.std.proofs.Common.{◌≡◌, ◌↔◌, ℕ, Bool, true, false, not, ◌&&◌, ◌||◌, IsTrue, Option, None, Some, if◌then◌else◌, sym, ap, refl, ◌∙◌}
use Rattle.std.proofs.lemmas.Bool.{false≢true}
use Rattle.run_model.specs.Class.{is_plain, all_plain, processes, all_processes, is_local, is_unequal, after_sign, are_bounded, is_analysed, is_conjunctive, all_conjunctive, is_disjunctive, all_disjunctive, IsOfClass}
use Rattle.meaning_laws.proofs.PartLemmas.{conjunctive_disjunctive}
use Rattle.rctl_grammar.specs.declared.fault.FormulaFault.{FormulaFault}
use Rattle.rctl_grammar.specs.declared.tree.Operator.{Operator}
use Rattle.rctl_grammar.specs.declared.tree.Operator.TheVariants as operator
use Rattle.rctl_grammar.specs.declared.tree.Side.TheVariants as side
use Rattle.rctl_grammar.specs.declared.tree.Atom.TheVariants as atom
use Rattle.rctl_grammar.specs.Shape.{relation_of, model_operator}
use Rattle.rctl_class.specs.Nodes.{Node, Nodes, leaf, negation, conjunction, disjunction, under, stepping, until_of, none, more, formula_of, formulas_of}
use Rattle.rctl_class.specs.Uses.{earlier}
use Rattle.rctl_class.specs.Faults.{first_fault, first_of, unless_local, operator_fault}

-- there is no fault
abbrev pub free : Option FormulaFault → Bool
free None = true
free (Some f) = false

free_or : (n : Node) (fault : Option FormulaFault) → free (unless_local n fault) ≡ is_local (formula_of n) || free fault
free_or n fault = elim (is_local (formula_of n)) as (λ b. free (if b then None else fault) ≡ b || free fault) [ true ↦ refl | false ↦ refl ]

free_both : (a b : Option FormulaFault) → free (earlier a b) ≡ free a && free b
free_both None b = refl
free_both (Some f) b = refl

free_if_not : (b : Bool) (f : FormulaFault) → free (if b then Some f else None) ≡ not b
free_if_not true f = refl
free_if_not false f = refl

free_if : (b : Bool) (f : FormulaFault) → free (if b then None else Some f) ≡ b
free_if true f = refl
free_if false f = refl

or_false : (b : Bool) → b || false ≡ b
or_false true = refl
or_false false = refl

free_positive : (o : Operator) (at : ℕ) → free (operator_fault true o at) ≡ is_analysed (model_operator o)
free_positive operator.Ef at = refl
free_positive operator.Ag at = refl
free_positive operator.Eg at = refl
free_positive (operator.Ex process) at = refl
free_positive operator.Af at = refl
free_positive operator.Ax at = refl

free_negative : (o : Operator) (at : ℕ) → free (operator_fault false o at) ≡ false
free_negative operator.Ef at = refl
free_negative operator.Ag at = refl
free_negative operator.Eg at = refl
free_negative (operator.Ex process) at = refl
free_negative operator.Af at = refl
free_negative operator.Ax at = refl

mutual
  unfolding is_plain all_plain processes all_processes is_conjunctive all_conjunctive

  pub conjunctive : (sign : Bool) (n : Node) → free (first_fault true sign n) ≡ is_conjunctive sign (formula_of n)
  conjunctive sign (leaf (atom.Truth value) at) = refl
  conjunctive sign (leaf (atom.Local p v compare (side.Number value)) at) = refl
  conjunctive sign (leaf (atom.Local p v compare (side.Variable q w)) at) =
      let n = leaf (atom.Local p v compare (side.Variable q w)) at in free_or n _ ∙ or_false (is_local (formula_of n))
  conjunctive sign (leaf (atom.Watch p w) at) = refl
  conjunctive sign (leaf (atom.InTransit p q compare k) at) = free_if_not (is_unequal (after_sign sign (relation_of compare))) _
  conjunctive sign (leaf (atom.Empty p q) at) = refl
  conjunctive sign (leaf (atom.Difference p x q y compare k) at) = free_if (are_bounded sign p.name q.name (relation_of compare)) _
  conjunctive sign (negation n at) = free_or (negation n at) _ ∙ ap (λ b. is_local (formula_of (negation n at)) || b) (conjunctive (not sign) n)
  conjunctive true (conjunction ns at) = free_or (conjunction ns at) _ ∙ ap (λ b. is_local (formula_of (conjunction ns at)) || b) (all_conjunctive_of true ns)
  conjunctive false (conjunction ns at) = free_or (conjunction ns at) _ ∙ or_false (is_local (formula_of (conjunction ns at)))
  conjunctive true (disjunction ns at) = free_or (disjunction ns at) _ ∙ or_false (is_local (formula_of (disjunction ns at)))
  conjunctive false (disjunction ns at) = free_or (disjunction ns at) _ ∙ ap (λ b. is_local (formula_of (disjunction ns at)) || b) (all_conjunctive_of false ns)
  conjunctive true (under o n at) = free_both (operator_fault true o at) (first_fault true true n) ∙ rw (free_positive o at, conjunctive true n) refl
  conjunctive false (under o n at) = free_both (operator_fault false o at) (first_fault true true n) ∙ rw (free_negative o at) refl
  conjunctive true (stepping process n at) = conjunctive true n
  conjunctive false (stepping process n at) = refl
  conjunctive sign (until_of all left right at) = refl

  all_conjunctive_of : (sign : Bool) (ns : Nodes) → free (first_of true sign ns) ≡ all_conjunctive sign (formulas_of ns)
  all_conjunctive_of sign none = refl
  all_conjunctive_of sign (more n ns) = free_both (first_fault true sign n) (first_of true sign ns) ∙ rw (conjunctive sign n, all_conjunctive_of sign ns) refl

or_wider : (l c d : Bool) → (c ≡ true → d ≡ true) → l || d ≡ (l || c) || d
or_wider true c d h = refl
or_wider false true d h = h refl
or_wider false false d h = refl

mutual
  unfolding is_plain all_plain processes all_processes is_conjunctive is_disjunctive all_disjunctive

  pub disjunctive : (sign : Bool) (n : Node) → free (first_fault false sign n) ≡ is_disjunctive sign (formula_of n)
  disjunctive sign (leaf (atom.Truth value) at) = refl
  disjunctive sign (leaf (atom.Local p v compare (side.Number value)) at) = refl
  disjunctive sign (leaf (atom.Local p v compare (side.Variable q w)) at) =
      let n = leaf (atom.Local p v compare (side.Variable q w)) at in free_or n _ ∙ or_false (is_local (formula_of n))
  disjunctive sign (leaf (atom.Watch p w) at) = refl
  disjunctive sign (leaf (atom.InTransit p q compare k) at) = free_if_not (is_unequal (after_sign sign (relation_of compare))) _
  disjunctive sign (leaf (atom.Empty p q) at) = refl
  disjunctive sign (leaf (atom.Difference p x q y compare k) at) = free_if (are_bounded sign p.name q.name (relation_of compare)) _
  disjunctive sign (negation n at) = free_or (negation n at) _ ∙ ap (λ b. is_local (formula_of (negation n at)) || b) (disjunctive (not sign) n)
      ∙ or_wider (is_local (formula_of (negation n at))) (is_conjunctive (not sign) (formula_of n)) (is_disjunctive (not sign) (formula_of n)) (conjunctive_disjunctive (formula_of n) (not sign))
  disjunctive true (conjunction ns at) = conjunctive true (conjunction ns at)
  disjunctive false (conjunction ns at) = free_or (conjunction ns at) _ ∙ ap (λ b. is_local (formula_of (conjunction ns at)) || b) (all_disjunctive_of false ns)
  disjunctive true (disjunction ns at) = free_or (disjunction ns at) _ ∙ ap (λ b. is_local (formula_of (disjunction ns at)) || b) (all_disjunctive_of true ns)
  disjunctive false (disjunction ns at) = conjunctive false (disjunction ns at)
  disjunctive true (under o n at) = conjunctive true (under o n at)
  disjunctive false (under o n at) = conjunctive false (under o n at)
  disjunctive true (stepping process n at) = conjunctive true n
  disjunctive false (stepping process n at) = refl
  disjunctive sign (until_of all left right at) = refl

  all_disjunctive_of : (sign : Bool) (ns : Nodes) → free (first_of false sign ns) ≡ all_disjunctive sign (formulas_of ns)
  all_disjunctive_of sign none = refl
  all_disjunctive_of sign (more n ns) = free_both (first_fault false sign n) (first_of false sign ns) ∙ rw (disjunctive sign n, all_disjunctive_of sign ns) refl

free_is_none : (fault : Option FormulaFault) → IsTrue (free fault) → fault ≡ None
free_is_none None h = refl
free_is_none (Some f) h = absurd (false≢true h)

none_is_free : (fault : Option FormulaFault) → fault ≡ None → IsTrue (free fault)
none_is_free None h = refl
none_is_free (Some f) h = absurd (cc)

pub of_the_class : (n : Node) → (first_fault false true n ≡ None) ↔ IsOfClass (formula_of n)
of_the_class n = (
  λ h. sym (disjunctive true n) ∙ none_is_free (first_fault false true n) h,
  λ h. free_is_none (first_fault false true n) (disjunctive true n ∙ h),
)
