use Rattle.std.proofs.Common.{List, ◌++◌, drop}
use Rattle.report_lines.specs.declared.kinds.WitnessText.{WitnessText}
use Rattle.answer_report.specs.inside.Choosing.{of_disjunct}
use Rattle.answer_report.specs.inside.Showing.{TellAll}
use Rattle.answer_report.proofs.witnesses.witnesses_of_true.Given as goal

abbrev pub invariant-loop-part : goal.invariant-loop-part
invariant-loop-part l =
    (more : List WitnessText) → TellAll l.order (of_disjunct l.number (drop l.part-index l.parts)) more → TellAll l.order (of_disjunct l.number l.parts) (l.witnesses ++ more)
