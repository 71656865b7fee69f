use Rattle.std.proofs.Common.{Option, sym, ap, ◌∙◌}
use Rattle.rctl_class.specs.NamedParts.{pieces_of}
use Rattle.over_questions.specs.Barred.{first, barred_parts}
use Rattle.over_questions.specs.declared.barred.Barred.{Barred}
use Rattle.over_questions.proofs.Barring.{next_disjunct}
use Rattle.over_questions.proofs.barred.barred_in.Goals as goal

pub disjuncts-preserved : goal.disjuncts-preserved
disjuncts-preserved c =
    (c.first-found).ensures ∙ ap (λ (f : Option Barred). first f (c.barred_parts.result)) c.disjuncts.invariant
    ∙ ap (first _) (c.barred_parts.ensures ∙ ap (λ ps. barred_parts (pieces_of ps)) c.as_slice.ensures)
    ∙ sym (next_disjunct c.args.disjuncts.now c.disjuncts.disjunct-index c.disjunct-item.result c.disjuncts-test.true c.disjunct-item.is)
