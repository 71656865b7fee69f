use Rattle.meaning_laws.proofs.RegularLemmas.{regular_closed}
use Rattle.meaning_laws.proofs.formula_laws.regular_families_are_closed.Goals as goal

pub returns : goal.returns
returns c = regular_closed
