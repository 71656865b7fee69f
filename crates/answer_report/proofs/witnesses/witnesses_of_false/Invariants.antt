use Rattle.std.proofs.Common.{List, ◌++◌, drop}
use Rattle.report_lines.specs.declared.kinds.WitnessText.{WitnessText}
use Rattle.answer_report.specs.inside.Choosing.{first_false}
use Rattle.answer_report.specs.inside.Showing.{TellAll}
use Rattle.answer_report.proofs.witnesses.witnesses_of_false.Given as goal

abbrev pub invariant-loop-part : goal.invariant-loop-part
invariant-loop-part l =
    (more : List WitnessText) → TellAll l.order (first_false l.told (drop l.part-index l.parts)) more → TellAll l.order (first_false 0 l.parts) (l.witnesses ++ more)
