use Rattle.meaning_laws.proofs.OperatorLemmas.{path_exists}
use Rattle.run_model.proofs.Paths.{path_rises}
use Rattle.run_model.specs.Consistent.{IsConsistent}
use Rattle.meaning_laws.proofs.order_laws.paths_rise.Goals as goal

pub returns-clause-exists : goal.returns-clause-exists
returns-clause-exists c = path_exists

pub returns-clause-rises : goal.returns-clause-rises
returns-clause-rises c = λ o. path_rises (IsConsistent o)
