use Rattle.run_model.specs.Formula.{Ef, Ag, Eg, Temporal, Next}
use Rattle.witness_laws.proofs.Nothing.{says}
use Rattle.witness_laws.proofs.nothing_is_told.Goals as goal

pub returns-clause-finally : goal.returns-clause-finally
returns-clause-finally c = λ r f w kind. says r (Temporal Ef f) w kind

pub returns-clause-always : goal.returns-clause-always
returns-clause-always c = λ r f w kind. says r (Temporal Ag f) w kind

pub returns-clause-globally : goal.returns-clause-globally
returns-clause-globally c = λ r f w kind. says r (Temporal Eg f) w kind

pub returns-clause-next : goal.returns-clause-next
returns-clause-next c = λ r process f w kind. says r (Next process f) w kind
