use Rattle.conjunctions.proofs.Finals.{none_cut}
use Rattle.conjunctions.proofs.floors.rows_with_cuts.Goals as goal

pub loop-process-init : goal.loop-process-init
loop-process-init c = none_cut _ _ c.no_rows-finals.ensures
