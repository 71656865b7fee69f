use Rattle.conjunctions.proofs.FinalRows.{final_same, final_floor}
use Rattle.conjunctions.proofs.laws.rows_with_a_cut_are_final.Goals as goal

pub returns-clause-same : goal.returns-clause-same
returns-clause-same c = final_same

pub returns-clause-floor : goal.returns-clause-floor
returns-clause-floor c = final_floor
