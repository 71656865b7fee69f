use Rattle.run_model.proofs.SliceLemmas.{cuts_closed}
use Rattle.meaning_laws.proofs.slice_laws.cuts_are_closed.Goals as goal

pub returns : goal.returns
returns c = cuts_closed
