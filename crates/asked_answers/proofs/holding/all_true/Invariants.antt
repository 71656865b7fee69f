use Rattle.std.proofs.Common.{◌≡◌, drop}
use Rattle.asked_answers.specs.Holding.{all_true}
use Rattle.asked_answers.proofs.holding.all_true.Given as goal

abbrev pub invariant-loop-i : goal.invariant-loop-i
invariant-loop-i l = all_true l.disjunct l.parts ≡ all_true l.disjunct (drop l.i l.parts)
