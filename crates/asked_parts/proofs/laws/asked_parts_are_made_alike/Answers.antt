use Rattle.asked_parts.proofs.Making.{all-asked-count, made_alike, same-counters}
use Rattle.asked_parts.proofs.laws.asked_parts_are_made_alike.Goals as goal

pub returns-clause-counters : goal.returns-clause-counters
returns-clause-counters c = same-counters

pub returns-clause-count : goal.returns-clause-count
returns-clause-count c = all-asked-count

pub returns-clause-made : goal.returns-clause-made
returns-clause-made c = made_alike
