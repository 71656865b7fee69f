use Rattle.one_log_laws.proofs.Kept.{formulas_stay}
use Rattle.one_log_laws.proofs.formulas_stay_as_true.Goals as goal

pub returns : goal.returns
returns c = formulas_stay
