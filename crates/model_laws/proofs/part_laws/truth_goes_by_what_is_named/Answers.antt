use Rattle.model_laws.proofs.Agreeing.{same_sat}
use Rattle.model_laws.proofs.part_laws.truth_goes_by_what_is_named.Goals as goal

pub returns : goal.returns
returns c = same_sat
