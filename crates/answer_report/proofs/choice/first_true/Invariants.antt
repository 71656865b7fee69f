use Rattle.std.proofs.Common.{◌≡◌, ◌≤◌, ◌^◌, drop}
use Rattle.answer_report.specs.inside.Choosing.{first_true}
use Rattle.answer_report.proofs.choice.first_true.Given as goal

abbrev pub invariant-loop-part : goal.invariant-loop-part
invariant-loop-part l = record {
  left : first_true l.number (drop l.part-index l.parts) ≡ first_true 1 l.parts;
  small : l.number ≤ 2 ^ 32;
}
