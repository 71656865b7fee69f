use Rattle.model_laws.proofs.Witnesses.{witness_there, witness_one, witness_kind}
use Rattle.model_laws.proofs.witness_laws.one_witness_of_a_part.Goals as goal

pub returns-clause-there : goal.returns-clause-there
returns-clause-there c = witness_there

pub returns-clause-one : goal.returns-clause-one
returns-clause-one c = witness_one

pub returns-clause-of_its_kind : goal.returns-clause-of_its_kind
returns-clause-of_its_kind c = witness_kind
