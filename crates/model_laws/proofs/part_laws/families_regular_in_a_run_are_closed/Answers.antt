use Rattle.meaning_laws.proofs.RegularLemmas.{regular_closed}
use Rattle.model_laws.proofs.part_laws.families_regular_in_a_run_are_closed.Goals as goal

pub returns : goal.returns
returns c = regular_closed
