use Rattle.graft.proofs.Joining.{views_group}
use Rattle.graft.proofs.laws.joined_slices_group.Goals as goal

pub returns : goal.returns
returns c = views_group
