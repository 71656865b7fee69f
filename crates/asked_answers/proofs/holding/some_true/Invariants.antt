use Rattle.std.proofs.Common.{◌≡◌, ◌-◌}
use Rattle.asked_answers.specs.Holding.{some_true}
use Rattle.asked_answers.proofs.holding.some_true.Given as goal

abbrev pub invariant-loop-number : goal.invariant-loop-number
invariant-loop-number l = some_true l.parts l.from (l.to - l.from) ≡ some_true l.parts l.number (l.to - l.number)
