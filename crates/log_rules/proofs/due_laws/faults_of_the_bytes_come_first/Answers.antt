use Rattle.log_rules.proofs.WholeReadings.{before_the_end, with_a_fault}
use Rattle.log_rules.proofs.due_laws.faults_of_the_bytes_come_first.Goals as goal

pub returns-clause-before : goal.returns-clause-before
returns-clause-before c = before_the_end

pub returns-clause-ended : goal.returns-clause-ended
returns-clause-ended c = with_a_fault
