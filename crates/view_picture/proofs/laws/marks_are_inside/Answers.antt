use Rattle.view_picture.proofs.Inside.{marks_are_inside}
use Rattle.view_picture.proofs.laws.marks_are_inside.Goals as goal

pub returns : goal.returns
returns c = marks_are_inside
