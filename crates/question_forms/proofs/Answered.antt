-- A question holds exactly where the answer to its disjuncts says so.
use Rattle.std.proofs.Common.{◌≡◌, ◌↔◌, ℕ, List, length, map, Option, None, Some, is_some, if◌then◌else◌, sym, subst, refl, ◌∙◌}
use Rattle.std.proofs.lemmas.List.{length-map}
use Rattle.run_model.specs.Run.{Run}
use Rattle.run_model.specs.Consistent.{IsOrder}
use Rattle.question_meaning.specs.declared.form.Form.{Form}
use Rattle.question_meaning.specs.declared.form.Form.TheVariants as form
use Rattle.question_meaning.specs.Asking.{question, asked_formula, AreFor, IsAnswered, MeanAt}
use Rattle.question_meaning.specs.Question.{Holds}
use Rattle.question_meaning.proofs.Answers.{answered}
use Rattle.question_text.specs.declared.front.Asking.{Asking}
use Rattle.question_text.specs.declared.front.Asking.TheVariants as asking
use Rattle.question_text.specs.declared.head.Head.{Head}
use Rattle.rctl_grammar.specs.declared.fault.FormulaFault.{FormulaFault}
use Rattle.rctl_grammar.specs.declared.tree.Tree.{Tree}
use Rattle.rctl_grammar.specs.Shape.{meaning}
use Rattle.rctl_class.specs.Nodes.{Node, node_of, formula_of, IsWithinLimits}
use Rattle.rctl_class.specs.NamedParts.{NamedPiece, part_formula, disjuncts_of}
use Rattle.rctl_class.specs.Classed.{IsClassed, disjunct_formulas}
use Rattle.rctl_class.proofs.Meaning.{classed_means, one_is_regular}
use Rattle.rctl_class.proofs.Derived.{within_limits, nodes_spell}
use Rattle.question_forms.specs.Questions.{IsQuestion}
use Rattle.question_forms.specs.Taking.{negated, regular_fault, size_fault, negation_fault, form_fault, form_of, asked_node}
use Rattle.question_forms.specs.declared.question.Question.{Question}
use Rattle.question_forms.proofs.Regular.{earlier_first, earlier_second, regular, none_small, negated_limits}

one_of : (n : Node) (ds : List (List NamedPiece)) → IsWithinLimits n → IsClassed n ds → regular_fault n ≡ None → length (disjunct_formulas ds) ≡ 1
one_of n ds limits classed h = length-map ds (map part_formula) ∙ (one_is_regular n ds limits classed).0 ((regular n).0 h)

are_for : (word : Asking) (n : Node) (ds : List (List NamedPiece)) → IsWithinLimits n → form_fault word n ≡ None → IsClassed (asked_node (form_of word n) n) ds
    → AreFor (form_of word n) (disjunct_formulas ds)
are_for asking.Never n ds limits free classed = tt
are_for asking.Can n ds limits free classed = tt
are_for asking.Always n ds limits free classed = always (negation_fault n) free classed where
  always : (fault : Option FormulaFault) → (if is_some fault then regular_fault n else None) ≡ None → IsClassed (asked_node (if is_some fault then form.Always else form.AlwaysByNegation) n) ds
      → AreFor (if is_some fault then form.Always else form.AlwaysByNegation) (disjunct_formulas ds)
  always None free is = tt
  always (Some f) free is = one_of n ds limits is free
are_for asking.Surely n ds limits free classed =
    one_of (negated n) ds (negated_limits n limits (none_small n (earlier_first (size_fault n) (regular_fault (negated n)) free))) classed (earlier_second (size_fault n) (regular_fault (negated n)) free)
are_for asking.AtEnd n ds limits free classed = one_of n ds limits classed free
are_for asking.Plain n ds limits free classed = tt

asked_alike : (form : Form) (n : Node) → formula_of (asked_node form n) ≡ asked_formula form (formula_of n)
asked_alike form.Never n = refl
asked_alike form.Can n = refl
asked_alike form.Always n = refl
asked_alike form.AlwaysByNegation n = refl
asked_alike form.Surely n = refl
asked_alike form.AtEnd n = refl
asked_alike form.Plain n = refl

-- the disjuncts that are asked mean the formula that the form asks of, and are one where it asks of
-- one
pub question_means : (text : List ℕ) (head : Head) (t : Tree) (q : Question) → IsQuestion text head t q → (r : Run) → IsOrder r.clocks
    → MeanAt r (disjunct_formulas (disjuncts_of q.classed.disjuncts)) (asked_formula q.form (meaning t))
question_means text head t q is r order =
    let ds = disjuncts_of q.classed.disjuncts in
    let n = node_of t in
    let mean : MeanAt r (disjunct_formulas ds) (formula_of (asked_node q.form n)) = λ c k. classed_means (asked_node q.form n) ds is.classed r order c k in
    subst (λ f. MeanAt r (disjunct_formulas ds) (asked_formula q.form f)) (nodes_spell _ t is.asking.formula.read) (subst (MeanAt r (disjunct_formulas ds)) (asked_alike q.form n) mean)

pub question_is_for : (text : List ℕ) (head : Head) (t : Tree) (q : Question) → IsQuestion text head t q → AreFor q.form (disjunct_formulas (disjuncts_of q.classed.disjuncts))
question_is_for text head t q is =
    let ds = disjuncts_of q.classed.disjuncts in
    let n = node_of t in
    let here : IsClassed (asked_node (form_of head.asking n) n) ds = subst (λ f. IsClassed (asked_node f n) ds) is.form is.classed in
    subst (λ f. AreFor f (disjunct_formulas ds)) (sym is.form) (are_for head.asking n ds (within_limits _ t is.asking.formula.read) is.asking.free here)

pub question_answered : (text : List ℕ) (head : Head) (t : Tree) (q : Question) → IsQuestion text head t q → (r : Run) → IsOrder r.clocks
    → Holds r (question q.form (meaning t)) ↔ IsAnswered r q.form (disjunct_formulas (disjuncts_of q.classed.disjuncts))
question_answered text head t q is r order =
    answered r order q.form (meaning t) (disjunct_formulas (disjuncts_of q.classed.disjuncts)) (question_means text head t q is r order) (question_is_for text head t q is)
