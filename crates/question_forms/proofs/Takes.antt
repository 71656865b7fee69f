-- Which formulas each form takes.
use Rattle.std.proofs.Common.{◌≡◌, ◌↔◌, ◌⊎◌, Option, None, Some, is_some, if◌then◌else◌, refl, inl, inr}
use Rattle.run_model.specs.Formula.{Not}
use Rattle.run_model.specs.Class.{IsOfClass}
use Rattle.question_text.specs.declared.front.Asking.{Asking}
use Rattle.question_text.specs.declared.front.Asking.TheVariants as asking
use Rattle.rctl_grammar.specs.declared.fault.FormulaFault.{FormulaFault}
use Rattle.rctl_class.specs.Nodes.{Node, formula_of}
use Rattle.rctl_class.proofs.Class.{of_the_class}
use Rattle.question_forms.specs.Taking.{negated, class_fault, regular_fault, size_fault, negation_fault, form_fault, Takes, IsSmall}
use Rattle.question_forms.proofs.Regular.{earlier_both, earlier_first, earlier_second, regular, small_none, none_small}

negation_taken : (n : Node) → (negation_fault n ≡ None) ↔ (IsSmall n × IsOfClass (Not (formula_of n)))
negation_taken n = (
  λ h. (none_small n (earlier_first (size_fault n) (class_fault (negated n)) h), (of_the_class (negated n)).0 (earlier_second (size_fault n) (class_fault (negated n)) h)),
  λ h. earlier_both (size_fault n) (class_fault (negated n)) (small_none n h.0) ((of_the_class (negated n)).1 h.1),
)

-- of either, the first is told where there are both
unless : (a b : Option FormulaFault) → (if is_some a then b else None) ≡ None → (b ≡ None) ⊎ (a ≡ None)
unless None b h = inr refl
unless (Some f) b h = inl h

where_either : (a b : Option FormulaFault) → (b ≡ None) ⊎ (a ≡ None) → (if is_some a then b else None) ≡ None
where_either None b h = refl
where_either (Some f) b (inl h) = h
where_either (Some f) b (inr h) = absurd (cc)

pub taken : (word : Asking) (n : Node) → (form_fault word n ≡ None) ↔ Takes word n
taken asking.Never n = of_the_class n
taken asking.Can n = of_the_class n
taken asking.Always n = (
  λ h. elim (unless (negation_fault n) (regular_fault n) h) [
    | inl none ↦ inl ((regular n).0 none)
    | inr none ↦ inr ((negation_taken n).0 none)
  ],
  λ h. where_either (negation_fault n) (regular_fault n) (elim h [
    | inl is ↦ inl ((regular n).1 is)
    | inr is ↦ inr ((negation_taken n).1 is)
  ]),
)
taken asking.Surely n = (
  λ h. (none_small n (earlier_first (size_fault n) (regular_fault (negated n)) h), (regular (negated n)).0 (earlier_second (size_fault n) (regular_fault (negated n)) h)),
  λ h. earlier_both (size_fault n) (regular_fault (negated n)) (small_none n h.0) ((regular (negated n)).1 h.1),
)
taken asking.AtEnd n = regular n
taken asking.Plain n = of_the_class n
