use Rattle.local_preds.proofs.Truths.{ToldFrom}
use Rattle.local_preds.proofs.along.pulls_of.Given as goal

abbrev pub invariant-loop-position : goal.invariant-loop-position
invariant-loop-position l = ToldFrom l.row l.position l.next l.table.items
