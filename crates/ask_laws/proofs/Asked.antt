-- What a question of some words asks, in whichever form it is read.
use Rattle.std.proofs.Common.{◌≡◌, Bool, true, false, refl}
use Rattle.std.specs.Prelude.{is_some, if◌then◌else◌}
use Rattle.run_model.specs.Formula.{Formula}
use Rattle.question_meaning.specs.Asking.{question}
use Rattle.question_meaning.specs.Question.{Question, Always}
use Rattle.question_meaning.specs.declared.form.Form.{Form}
use Rattle.question_meaning.specs.declared.form.Form.TheVariants as form
use Rattle.rctl_class.specs.Nodes.{Node}
use Rattle.question_text.specs.declared.front.Asking.{Asking}
use Rattle.question_text.specs.declared.front.Asking.TheVariants as asking
use Rattle.question_forms.specs.Taking.{form_of, negation_fault}
use Rattle.ask_laws.specs.Instances.{question_by}

-- one of two forms, of which each asks the same
either_form : (by : Bool) (x y : Form) (f : Formula) (q : Question) → question x f ≡ q → question y f ≡ q → question (if by then x else y) f ≡ q
either_form true x y f q first second = first
either_form false x y f q first second = second

pub question_is : (words : Asking) (n : Node) (f : Formula) → question (form_of words n) f ≡ question_by words f
question_is asking.Never n f = refl
question_is asking.Can n f = refl
question_is asking.Always n f = either_form (is_some (negation_fault n)) form.Always form.AlwaysByNegation f (Always f) refl refl
question_is asking.Surely n f = refl
question_is asking.AtEnd n f = refl
question_is asking.Plain n f = refl
