-- What each form takes: the formula that it asks of, and what is wrong with one that it doesn't
-- take.
use Rattle.std.specs.Prelude.{◌≤◌, ◌⊎◌, nat_lt, Option, None, is_some, if◌then◌else◌, true, false}
use Rattle.run_model.specs.Formula.{Not}
use Rattle.run_model.specs.Class.{IsOfClass, IsRegular}
use Rattle.question_text.specs.declared.front.Asking.{Asking}
use Rattle.question_text.specs.declared.front.Asking.TheVariants as asking
use Rattle.question_meaning.specs.declared.form.Form.{Form}
use Rattle.question_meaning.specs.declared.form.Form.TheVariants as form
use Rattle.rctl_grammar.specs.declared.fault.FormulaCode.TheVariants as code
use Rattle.rctl_grammar.specs.declared.fault.FormulaFault.{FormulaFault}
use Rattle.rctl_class.specs.Nodes.{Node, negation, node_count, formula_of}
use Rattle.rctl_class.specs.Uses.{earlier, fault_at}
use Rattle.rctl_class.specs.Faults.{first_fault}

-- the negation, with the place of the formula's first byte
abbrev pub negated : Node → Node
negated n = negation n 0

-- ---- what is wrong with a formula

-- it is not analysed
abbrev pub class_fault : Node → Option FormulaFault
class_fault n = first_fault false true n

-- it is not regular: not analysed, or else a disjunction
abbrev pub regular_fault : Node → Option FormulaFault
regular_fault n = earlier (class_fault n) (first_fault true true n)

-- with its negation it is too large: of 64 nodes, to which the negation would be one more
abbrev pub size_fault : Node → Option FormulaFault
size_fault n = if nat_lt 63 (node_count n) then fault_at code.TooManyNodes 0 else None

-- its negation is not analysed
abbrev pub negation_fault : Node → Option FormulaFault
negation_fault n = earlier (size_fault n) (class_fault (negated n))

-- its negation is not regular
abbrev pub regular_negation_fault : Node → Option FormulaFault
regular_negation_fault n = earlier (size_fault n) (regular_fault (negated n))

-- ---- by the words of the form

-- what is wrong with a formula behind these words. `always` takes it where it is regular and where
-- its negation is analysed, and tells else why it is not regular
abbrev pub form_fault : Asking → Node → Option FormulaFault
form_fault asking.Never n = class_fault n
form_fault asking.Can n = class_fault n
form_fault asking.Always n = if is_some (negation_fault n) then regular_fault n else None
form_fault asking.Surely n = regular_negation_fault n
form_fault asking.AtEnd n = regular_fault n
form_fault asking.Plain n = class_fault n

-- the form in which it is asked. `always` asks the negation where that is analysed, also of a
-- regular formula: neither has an operator then, and each disjunct of the negation is answered by
-- one least cut, where AG of the formula settles all rows
abbrev pub form_of : Asking → Node → Form
form_of asking.Never n = form.Never
form_of asking.Can n = form.Can
form_of asking.Always n = if is_some (negation_fault n) then form.Always else form.AlwaysByNegation
form_of asking.Surely n = form.Surely
form_of asking.AtEnd n = form.AtEnd
form_of asking.Plain n = form.Plain

-- the formula whose disjuncts the form asks
abbrev pub asked_node : Form → Node → Node
asked_node form.Never n = n
asked_node form.Can n = n
asked_node form.Always n = n
asked_node form.AlwaysByNegation n = negated n
asked_node form.Surely n = negated n
asked_node form.AtEnd n = n
asked_node form.Plain n = n

-- ---- what that comes to

-- with its negation it has 64 nodes at most
abbrev pub IsSmall : Node → Type 0
IsSmall n = node_count n ≤ 63

-- the formulas that are taken behind these words
abbrev pub Takes : Asking → Node → Type 0
Takes asking.Never n = IsOfClass (formula_of n)
Takes asking.Can n = IsOfClass (formula_of n)
Takes asking.Always n =
    IsRegular (formula_of n) ⊎ (IsSmall n × IsOfClass (Not (formula_of n)))
Takes asking.Surely n = IsSmall n × IsRegular (Not (formula_of n))
Takes asking.AtEnd n = IsRegular (formula_of n)
Takes asking.Plain n = IsOfClass (formula_of n)
