use Rattle.std.proofs.Common.{◌≡◌, ◌+◌, sum, take}
use Rattle.pull_system.specs.Rows.{first_rows}
use Rattle.pull_system.specs.Growth.{grown_row}
use Rattle.pull_system.proofs.rows.grow_words.Given as goal

abbrev pub invariant-loop-process : goal.invariant-loop-process
invariant-loop-process l = l.words.items ≡ first_rows (grown_row l.shape l.old) (sum (take l.process l.shape) + 1)
