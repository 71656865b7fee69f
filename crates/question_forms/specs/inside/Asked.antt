-- What is asked behind the words of a form.
use Rattle.std.specs.Prelude.{◌≡◌, None}
use Rattle.question_text.specs.declared.front.Asking.{Asking}
use Rattle.rctl_class.specs.Classed.{IsClassed}
use Rattle.rctl_class.specs.NamedParts.{disjuncts_of}
use Rattle.rctl_class.specs.Nodes.{Node}
use Rattle.question_forms.specs.Taking.{form_fault, form_of, asked_node}
use Rattle.question_forms.specs.declared.asked.Asked.{Asked}

-- the form takes the formula, and these are the disjuncts that it asks
pub record IsAsked (asking : Asking) (n : Node) (asked : Asked) : Type 0 where
  pub free : form_fault asking n ≡ None
  pub form : asked.form ≡ form_of asking n
  pub classed : IsClassed (asked_node asked.form n) (disjuncts_of asked.classed.disjuncts)
