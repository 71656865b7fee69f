use Rattle.std.proofs.Common.{rules}
use Rattle.pull_system.proofs.Growing.{grown_are_rows}
use Rattle.pull_system.proofs.rows.Rows.grown.Goals as goal

pub invariant_of-result : goal.invariant_of-result
invariant_of-result c = grown_are_rows _ _ c.args.old.now (search rules) (search rules) (search rules) c.in_ok-words.ensures
