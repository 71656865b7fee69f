use Rattle.view_picture.proofs.Sides.{goals_are_behind_the_least, goals_are_before_the_greatest, goals_beyond_are_beyond}
use Rattle.view_picture.proofs.laws.goals_are_on_their_side.Goals as goal

pub returns-clause-behind : goal.returns-clause-behind
returns-clause-behind c = goals_are_behind_the_least

pub returns-clause-before : goal.returns-clause-before
returns-clause-before c = goals_are_before_the_greatest

pub returns-clause-beyond : goal.returns-clause-beyond
returns-clause-beyond c = goals_beyond_are_beyond
