use Rattle.kept_log.proofs.Answering.{truth_kept, least_kept, greatest_kept}
use Rattle.kept_log.proofs.formulas_stay_as_true.Goals as goal

pub returns-clause-truth : goal.returns-clause-truth
returns-clause-truth c = truth_kept

pub returns-clause-least : goal.returns-clause-least
returns-clause-least c = least_kept

pub returns-clause-greatest : goal.returns-clause-greatest
returns-clause-greatest c = greatest_kept
