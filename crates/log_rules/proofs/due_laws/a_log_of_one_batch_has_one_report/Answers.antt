use Rattle.log_rules.proofs.WholeReadings.{one_report}
use Rattle.log_rules.proofs.due_laws.a_log_of_one_batch_has_one_report.Goals as goal

pub returns : goal.returns
returns c = one_report
