use Rattle.vector_clock.proofs.OneClock.{one_clock}
use Rattle.vector_clock.proofs.ClockOf.{has_clock}
use Rattle.vector_clock.proofs.laws.each_has_one_clock.Goals as goal

pub returns-clause-one : goal.returns-clause-one
returns-clause-one c = one_clock

pub returns-clause-there : goal.returns-clause-there
returns-clause-there c = has_clock
