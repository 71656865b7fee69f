use Rattle.asked_observation.proofs.Staying.{stays}
use Rattle.asked_observation.proofs.laws.a_list_stays_observed.Goals as goal

pub returns : goal.returns
returns c = stays
