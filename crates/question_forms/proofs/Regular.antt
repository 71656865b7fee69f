-- What is wrong with a formula that has to be regular, and with its negation.
use Rattle.std.proofs.Common.{◌≡◌, ◌↔◌, ◌⊎◌, nat_le, nat_lt, Bool, true, false, not, IsTrue, List, length, Option, None, Some, sym, refl, ◌∙◌, inl, inr, arith}
use Rattle.std.proofs.lemmas.Bool.{cases_Bool, false≢true, leb-true, ltb-false, le-ltb}
use Rattle.run_model.specs.Formula.{Formula, Not}
use Rattle.run_model.specs.Class.{is_plain, all_plain, processes, all_processes, is_local, is_wide, all_wide, is_conjunctive, IsRegular}
use Rattle.meaning_laws.proofs.PartLemmas.{conjunctive_disjunctive}
use Rattle.rctl_grammar.specs.declared.fault.FormulaFault.{FormulaFault}
use Rattle.rctl_grammar.specs.declared.fault.FormulaCode.TheVariants as code
use Rattle.rctl_class.specs.Nodes.{Node, leaf, negation, conjunction, disjunction, under, stepping, until_of, formula_of, node_count, IsWithinLimits}
use Rattle.rctl_class.specs.Uses.{earlier, fault_at}
use Rattle.rctl_class.specs.Faults.{first_fault}
use Rattle.rctl_class.specs.NamedParts.{NamedPiece}
use Rattle.rctl_class.specs.Classed.{IsClassed}
use Rattle.rctl_class.proofs.Class.{free, conjunctive, of_the_class}
use Rattle.rctl_class.proofs.Meaning.{one_is_regular}
use Rattle.question_forms.specs.Taking.{negated, class_fault, regular_fault, size_fault, IsSmall}
use Rattle.question_forms.specs.inside.Splits.{split_place}

-- ---- of two faults

pub earlier_both : (a b : Option FormulaFault) → a ≡ None → b ≡ None → earlier a b ≡ None
earlier_both None b x y = y
earlier_both (Some f) b x y = absurd (cc)

pub earlier_first : (a b : Option FormulaFault) → earlier a b ≡ None → a ≡ None
earlier_first None b h = refl
earlier_first (Some f) b h = absurd (cc)

pub earlier_second : (a b : Option FormulaFault) → earlier a b ≡ None → b ≡ None
earlier_second None b h = h
earlier_second (Some f) b h = absurd (cc)

pub behind_none : (a b : Option FormulaFault) → a ≡ None → earlier a b ≡ b
behind_none None b h = refl
behind_none (Some f) b h = absurd (cc)

-- ---- regular

free_none : (fault : Option FormulaFault) → free fault ≡ true → fault ≡ None
free_none None h = refl
free_none (Some f) h = absurd (false≢true h)

none_free : (fault : Option FormulaFault) → fault ≡ None → free fault ≡ true
none_free None h = refl
none_free (Some f) h = absurd (cc)

pub none_is_regular : (n : Node) → first_fault true true n ≡ None → IsRegular (formula_of n)
none_is_regular n h = sym (conjunctive true n) ∙ none_free (first_fault true true n) h

pub regular_is_none : (n : Node) → IsRegular (formula_of n) → first_fault true true n ≡ None
regular_is_none n h = free_none (first_fault true true n) (conjunctive true n ∙ h)

pub regular : (n : Node) → (regular_fault n ≡ None) ↔ IsRegular (formula_of n)
regular n = (
  λ h. none_is_regular n (earlier_second (class_fault n) (first_fault true true n) h),
  λ h. earlier_both (class_fault n) (first_fault true true n) ((of_the_class n).1 (conjunctive_disjunctive (formula_of n) true h)) (regular_is_none n h),
)

-- ---- one disjunct or several

mutual
  unfolding is_plain all_plain processes all_processes

  pub split : (sign : Bool) (n : Node) → first_fault false sign n ≡ None
      → (first_fault true sign n ≡ None) ⊎ (first_fault true sign n ≡ fault_at code.DisjunctionInside (split_place n))
  split sign (leaf a at) h = inl h
  split sign (negation n at) h = elim (cases_Bool (is_local (formula_of (negation n at)))) [
    | inl is ↦ inl (rw is refl)
    | inr is ↦ rw is (split (not sign) n (rw is at h))
  ]
  split true (conjunction ns at) h = inl h
  split false (conjunction ns at) h = elim (cases_Bool (is_local (formula_of (conjunction ns at)))) [
    | inl is ↦ inl (rw is refl)
    | inr is ↦ inr (rw is refl)
  ]
  split true (disjunction ns at) h = elim (cases_Bool (is_local (formula_of (disjunction ns at)))) [
    | inl is ↦ inl (rw is refl)
    | inr is ↦ inr (rw is refl)
  ]
  split false (disjunction ns at) h = inl h
  split sign (under operator n at) h = inl h
  split sign (stepping process n at) h = inl h
  split sign (until_of all left right at) h = inl h

pub one_part : (n : Node) (ds : List (List NamedPiece)) → IsWithinLimits n → IsClassed n ds → length ds ≡ 1 → regular_fault n ≡ None
one_part n ds limits classed one = (regular n).1 ((one_is_regular n ds limits classed).1 one)

pub several_parts : (n : Node) (ds : List (List NamedPiece)) → IsWithinLimits n → IsClassed n ds → (length ds ≡ 1 → ⊥)
    → regular_fault n ≡ fault_at code.DisjunctionInside (split_place n)
several_parts n ds limits classed several = behind_none (class_fault n) (first_fault true true n) classed.free ∙ elim (split true n classed.free) [
  | inl none ↦ absurd (several ((one_is_regular n ds limits classed).0 (none_is_regular n none)))
  | inr fault ↦ fault
]

-- ---- the negation

pub negated_limits : (n : Node) → IsWithinLimits n → IsSmall n → IsWithinLimits (negated n)
unfolding is_wide all_wide
negated_limits n limits small = record { counts = limits.counts; wide = limits.wide; few = omega (arith, small) }

pub small_none : (n : Node) → IsSmall n → size_fault n ≡ None
small_none n small = rw (le-ltb 63 (node_count n) small) refl

pub none_small : (n : Node) → size_fault n ≡ None → IsSmall n
none_small n none = elim (cases_Bool (nat_lt 63 (node_count n))) [
  | inl large ↦ absurd (let bad = rw large at none in cc)
  | inr small ↦ ltb-false 63 (node_count n) small
]

pub small_if : (n : Node) → nat_le (node_count n) 63 ≡ true → IsSmall n
small_if n h = leb-true (node_count n) 63 h

-- a local formula has a local negation
pub local_regular : (f : Formula) → IsTrue (is_local f) → IsRegular (Not f)
unfolding is_plain all_plain processes all_processes is_conjunctive
local_regular f h = rw h refl
