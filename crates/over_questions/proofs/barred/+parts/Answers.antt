use Rattle.std.proofs.Common.{Option, sym, ap, ◌∙◌}
use Rattle.over_questions.specs.Barred.{first}
use Rattle.over_questions.specs.declared.barred.Barred.{Barred}
use Rattle.over_questions.proofs.Barring.{next_part}
use Rattle.over_questions.proofs.barred.+parts.Goals as goal

pub barred_parts-parts-preserved : goal.barred_parts-parts-preserved
barred_parts-parts-preserved t c =
    (c.first-found).ensures ∙ ap (λ (f : Option Barred). first f (c.barred_part.result)) c.parts.invariant ∙ ap (first _) c.barred_part.ensures
    ∙ sym (next_part c.args.parts.now c.parts.part-index c.part-item.result c.parts-test.true c.part-item.is)
