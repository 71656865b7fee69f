use Rattle.call_promise.proofs.Clauses.{clause_read, clause_write}
use Rattle.call_promise.proofs.laws.faults_have_a_cause.Goals as goal

pub returns-clause-read : goal.returns-clause-read
returns-clause-read c = clause_read

pub returns-clause-write : goal.returns-clause-write
returns-clause-write c = clause_write
