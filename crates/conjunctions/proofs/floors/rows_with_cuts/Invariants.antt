use Rattle.conjunctions.specs.inside.Beginning.{HaveCuts}
use Rattle.conjunctions.proofs.floors.rows_with_cuts.Given as goal

abbrev pub invariant-loop-process : goal.invariant-loop-process
invariant-loop-process l = HaveCuts l.rows l.finals
