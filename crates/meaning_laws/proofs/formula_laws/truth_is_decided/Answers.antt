use Rattle.meaning_laws.proofs.DecisionLemmas.{decide_sat}
use Rattle.meaning_laws.proofs.formula_laws.truth_is_decided.Goals as goal

pub returns : goal.returns
returns c = decide_sat
