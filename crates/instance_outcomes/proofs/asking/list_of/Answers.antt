use Rattle.std.proofs.Common.{◌∙◌, ap, sym}
use Rattle.rctl_class.specs.NamedParts.{disjuncts_of}
use Rattle.over_questions.specs.Barred.{barred_disjuncts}
use Rattle.instance_outcomes.proofs.Alone.{listed_alone}
use Rattle.instance_outcomes.proofs.asking.list_of.Goals as goal

pub returns-in-Ok-clause-list : goal.returns-in-Ok-clause-list
returns-in-Ok-clause-list c =
    let free = ap (λ ds. barred_disjuncts (disjuncts_of ds)) (sym c.as_slice.ensures) ∙ sym c.barred_in.ensures ∙ c.in_default.is in
    listed_alone c.new.result c.in-Ok.list c.args.question c.new.ensures.disjuncts c.new.ensures.forms c.in-Ok.ensures.list c.in-Ok.ensures.adds free
