use Rattle.rctl_laws.proofs.Reading.{one_reading}
use Rattle.rctl_laws.proofs.laws.reading_is_one.Goals as goal

pub returns : goal.returns
returns c = one_reading
