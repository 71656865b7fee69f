use Rattle.view_text.proofs.Bounds.{above_by_count}
use Rattle.view_text.proofs.laws.the_last_kept_are_shown.Goals as goal

pub returns : goal.returns
returns c = above_by_count
