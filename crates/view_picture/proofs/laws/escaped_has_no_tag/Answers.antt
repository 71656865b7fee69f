use Rattle.view_picture.proofs.Apart.{escaped_has_no_tag}
use Rattle.view_picture.proofs.laws.escaped_has_no_tag.Goals as goal

pub returns : goal.returns
returns c = escaped_has_no_tag
