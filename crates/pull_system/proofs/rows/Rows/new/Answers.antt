use Rattle.std.proofs.Common.{rules}
use Rattle.pull_system.proofs.Starts.{are_rows}
use Rattle.pull_system.proofs.rows.Rows.new.Goals as goal

pub invariant_of-result : goal.invariant_of-result
invariant_of-result c = are_rows _ _ (search rules) c.in_ok-words.ensures
