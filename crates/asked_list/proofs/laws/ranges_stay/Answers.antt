use Rattle.asked_list.proofs.Added.{some}
use Rattle.asked_list.proofs.Ranges.{added, kept}
use Rattle.asked_list.proofs.laws.ranges_stay.Goals as goal

pub returns-clause-some : goal.returns-clause-some
returns-clause-some c = some

pub returns-clause-added : goal.returns-clause-added
returns-clause-added c = added

pub returns-clause-kept : goal.returns-clause-kept
returns-clause-kept c = kept
