use Rattle.view_picture.proofs.Apart.{marks_are_apart}
use Rattle.view_picture.proofs.laws.marks_are_apart.Goals as goal

pub returns : goal.returns
returns c = marks_are_apart
