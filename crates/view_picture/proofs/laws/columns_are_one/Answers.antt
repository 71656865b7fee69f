use Rattle.view_picture.proofs.Unique.{columns_are_one}
use Rattle.view_picture.proofs.laws.columns_are_one.Goals as goal

pub returns : goal.returns
returns c = columns_are_one
