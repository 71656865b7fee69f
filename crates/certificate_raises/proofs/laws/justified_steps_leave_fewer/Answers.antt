use Rattle.certificate_raises.proofs.Ending.{raise_leaves, row_leaves}
use Rattle.certificate_raises.proofs.laws.justified_steps_leave_fewer.Goals as goal

pub returns-clause-raise : goal.returns-clause-raise
returns-clause-raise c = raise_leaves

pub returns-clause-row : goal.returns-clause-row
returns-clause-row c = row_leaves
