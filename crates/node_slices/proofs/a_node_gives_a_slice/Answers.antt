use Rattle.node_slices.proofs.Giving.{given_there}
use Rattle.node_slices.proofs.a_node_gives_a_slice.Goals as goal

pub returns : goal.returns
returns c = given_there
