use Rattle.std.proofs.Common.{ℕ, subst, refl}
use Rattle.answer_report.specs.inside.Choosing.{of_disjunct}
use Rattle.answer_report.specs.inside.Showing.{TellAll}
use Rattle.answer_report.proofs.Loops.{completed}
use Rattle.answer_report.proofs.witnesses.witnesses_of_true.Goals as goal

pub returns : goal.returns
returns c =
    let number = c.first_true-number.result in
    subst (λ (n : ℕ). TellAll c.args.order.now (of_disjunct n c.args.parts.now) c.loop-part.witnesses) c.first_true-number.ensures
    (completed c.args.order.now (of_disjunct number c.args.parts.now) (of_disjunct number) refl c.args.parts.now c.loop-part.part-index c.loop-part.witnesses c.loop-part-test.false c.loop-part.invariant)
