use Rattle.std.proofs.Common.{◌∙◌, ap, get_or}
use Rattle.question_meaning.specs.declared.form.Form.TheVariants as form
use Rattle.rctl_parts.specs.Pieces.{disjuncts_of}
use Rattle.asked_list.proofs.Asked.{next_asked}
use Rattle.asked_list.proofs.asking.ask_each.Goals as goal

pub disjuncts-preserved : goal.disjuncts-preserved
disjuncts-preserved c =
    let number = (c.form_at-form).ensures ∙ ap (λ k. get_or c.args.forms.now k form.Plain) c.len.ensures in
    ap disjuncts_of c.in_ok-push.ensures.ok
    ∙ next_asked c.args.forms.now c.disjuncts.made c.disjuncts.yielded c.in-Some.parts c.in_ok-ask_parts.field-0 (c.form_at-form).result c.disjuncts.invariant number c.in_ok-ask_parts.ensures
