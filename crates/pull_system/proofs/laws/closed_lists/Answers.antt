use Rattle.pull_system.proofs.PullLists.{closed_under, closed_left, closed_right, closed_both}
use Rattle.pull_system.proofs.laws.closed_lists.Goals as goal

pub returns-clause-system : goal.returns-clause-system
returns-clause-system c = closed_under

pub returns-clause-left : goal.returns-clause-left
returns-clause-left c = closed_left

pub returns-clause-right : goal.returns-clause-right
returns-clause-right c = closed_right

pub returns-clause-both : goal.returns-clause-both
returns-clause-both c = closed_both
