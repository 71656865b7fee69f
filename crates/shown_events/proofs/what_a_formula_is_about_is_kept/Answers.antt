use Rattle.shown_events.proofs.what_a_formula_is_about_is_kept.Goals as goal
use Rattle.shown_events.proofs.Kept.{kept_is}

pub returns : goal.returns
returns c = kept_is
