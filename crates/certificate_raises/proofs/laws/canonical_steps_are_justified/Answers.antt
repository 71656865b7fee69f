use Rattle.certificate_raises.proofs.Following.{row_follows}
use Rattle.certificate_raises.proofs.laws.canonical_steps_are_justified.Goals as goal

pub returns-clause-row : goal.returns-clause-row
returns-clause-row c = row_follows
