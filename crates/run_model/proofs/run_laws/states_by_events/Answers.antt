use Rattle.run_model.proofs.TraceLemmas.{length-states_from, states_from_at}
use Rattle.run_model.specs.Run.{opening_state}
use Rattle.std.proofs.Common.{[]}
use Rattle.run_model.proofs.run_laws.states_by_events.Goals as goal

pub returns-clause-count : goal.returns-clause-count
returns-clause-count c = λ p. length-states_from (opening_state p) p.events

pub returns-clause-place : goal.returns-clause-place
returns-clause-place c = λ p a. states_from_at (opening_state p) p.events a []
