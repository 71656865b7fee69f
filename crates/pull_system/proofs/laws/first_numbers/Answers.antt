use Rattle.pull_system.proofs.PullLists.{first_within, first_passes, first_least, first_grows}
use Rattle.pull_system.proofs.laws.first_numbers.Goals as goal

pub returns-clause-within : goal.returns-clause-within
returns-clause-within c = first_within

pub returns-clause-passes : goal.returns-clause-passes
returns-clause-passes c = first_passes

pub returns-clause-least : goal.returns-clause-least
returns-clause-least c = first_least

pub returns-clause-grows : goal.returns-clause-grows
returns-clause-grows c = first_grows
