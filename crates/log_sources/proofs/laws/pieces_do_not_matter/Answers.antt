use Rattle.log_sources.proofs.Stepping as stepping
use Rattle.log_sources.proofs.laws.pieces_do_not_matter.Goals as goal

pub returns : goal.returns
returns c = stepping.after_more
