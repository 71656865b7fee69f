use Rattle.clock_laws.proofs.Logs.{earlier_stays}
use Rattle.clock_laws.proofs.earlier_clocks_stay.Goals as goal

pub returns : goal.returns
returns c = earlier_stays
