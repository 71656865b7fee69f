use Rattle.pull_system.proofs.Final.{still_least, final_row}
use Rattle.pull_system.proofs.laws.final_rows.Goals as goal

pub returns-clause-vector : goal.returns-clause-vector
returns-clause-vector c = still_least

pub returns-clause-row : goal.returns-clause-row
returns-clause-row c = final_row
