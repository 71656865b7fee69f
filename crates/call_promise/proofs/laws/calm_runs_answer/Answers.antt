use Rattle.call_promise.proofs.Clauses.{clause_decided, clause_refused, clause_misasked, clause_benched}
use Rattle.call_promise.proofs.laws.calm_runs_answer.Goals as goal

pub returns-clause-decided : goal.returns-clause-decided
returns-clause-decided c = clause_decided

pub returns-clause-refused : goal.returns-clause-refused
returns-clause-refused c = clause_refused

pub returns-clause-misasked : goal.returns-clause-misasked
returns-clause-misasked c = clause_misasked

pub returns-clause-benched : goal.returns-clause-benched
returns-clause-benched c = clause_benched
