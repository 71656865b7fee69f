use Rattle.std.proofs.Common.{◌≡◌, ◌+◌, ◌-◌, ◌++◌, sum, take}
use Rattle.pull_system.specs.Rows.{start_of, row_block}
use Rattle.pull_system.proofs.rows.push_new.Given as goal

abbrev pub invariant-loop-before : goal.invariant-loop-before
invariant-loop-before l = l.words.items ≡ l.fn.words.items ++ row_block (start_of l.shape) (sum (take l.process l.shape) + 1 + l.events) (l.before - l.events)
