use Rattle.slice_workers.proofs.Firsts.{first_final}
use Rattle.slice_workers.proofs.laws.first_rows_are_final.Goals as goal

pub returns : goal.returns
returns c = first_final
