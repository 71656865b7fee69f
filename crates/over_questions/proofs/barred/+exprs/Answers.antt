use Rattle.std.proofs.Common.{Option, sym, ap, ◌∙◌}
use Rattle.over_questions.specs.Barred.{first}
use Rattle.over_questions.specs.declared.barred.Barred.{Barred}
use Rattle.over_questions.proofs.Barring.{next_expr}
use Rattle.over_questions.proofs.barred.+exprs.Goals as goal

pub barred_exprs-members-preserved : goal.barred_exprs-members-preserved
barred_exprs-members-preserved t c =
    (c.first-found).ensures ∙ ap (λ (f : Option Barred). first f (c.barred_expr.result)) c.members.invariant ∙ ap (first _) c.barred_expr.ensures
    ∙ sym (next_expr c.args.members.now c.members.member-index c.member-item.result c.members-test.true c.member-item.is)
