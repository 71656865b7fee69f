use Rattle.pull_system.proofs.Growing.{least_grows, grown_rows_below}
use Rattle.pull_system.proofs.laws.growing_systems.Goals as goal

pub returns-clause-least : goal.returns-clause-least
returns-clause-least c = least_grows

pub returns-clause-rows : goal.returns-clause-rows
returns-clause-rows c = grown_rows_below
