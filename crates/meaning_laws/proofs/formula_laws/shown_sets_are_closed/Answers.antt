use Rattle.meaning_laws.proofs.ShownLemmas.{shown_closed, shown_smallest}
use Rattle.meaning_laws.proofs.formula_laws.shown_sets_are_closed.Goals as goal

pub returns-clause-closed : goal.returns-clause-closed
returns-clause-closed c = shown_closed

pub returns-clause-smallest : goal.returns-clause-smallest
returns-clause-smallest c = shown_smallest
