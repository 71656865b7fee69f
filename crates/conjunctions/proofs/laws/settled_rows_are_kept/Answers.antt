use Rattle.conjunctions.proofs.Later.{settled_are_floors}
use Rattle.conjunctions.proofs.laws.settled_rows_are_kept.Goals as goal

pub returns : goal.returns
returns c = settled_are_floors
