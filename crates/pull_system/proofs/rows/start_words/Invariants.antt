use Rattle.std.proofs.Common.{◌≡◌}
use Rattle.pull_system.specs.Rows.{first_rows, start_of}
use Rattle.pull_system.proofs.rows.start_words.Given as goal

abbrev pub invariant-loop-row : goal.invariant-loop-row
invariant-loop-row l = l.words.items ≡ first_rows (start_of l.shape) l.row
