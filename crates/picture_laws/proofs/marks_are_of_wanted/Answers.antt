use Rattle.picture_laws.proofs.Arrows.{marks_are_of_wanted}
use Rattle.picture_laws.proofs.marks_are_of_wanted.Goals as goal

pub returns : goal.returns
returns c = marks_are_of_wanted
