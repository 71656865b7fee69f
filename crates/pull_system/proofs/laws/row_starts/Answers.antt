use Rattle.pull_system.proofs.Starts.{start_of-bottom, start_of-event, start_of-vector, starts-place}
use Rattle.pull_system.proofs.laws.row_starts.Goals as goal

pub returns-clause-bottom : goal.returns-clause-bottom
returns-clause-bottom c = start_of-bottom

pub returns-clause-event : goal.returns-clause-event
returns-clause-event c = λ lens event is. start_of-event lens event.process event.position is.process is.first is.last

pub returns-clause-vector : goal.returns-clause-vector
returns-clause-vector c = start_of-vector

pub returns-clause-place : goal.returns-clause-place
returns-clause-place c = starts-place
