use Rattle.slice_graph.proofs.Alone.{rows_alone}
use Rattle.slice_graph.proofs.laws.rows_of_one_slice.Goals as goal

pub returns : goal.returns
returns c = rows_alone
