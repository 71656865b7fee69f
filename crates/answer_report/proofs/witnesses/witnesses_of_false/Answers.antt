use Rattle.std.proofs.Common.{refl}
use Rattle.answer_report.specs.inside.Choosing.{first_false}
use Rattle.answer_report.proofs.Loops.{completed}
use Rattle.answer_report.proofs.witnesses.witnesses_of_false.Goals as goal

pub returns : goal.returns
returns c =
    completed c.args.order.now (first_false 0 c.args.parts.now) (first_false c.loop-part.told) refl c.args.parts.now c.loop-part.part-index c.loop-part.witnesses c.loop-part-test.false c.loop-part.invariant
