use Rattle.log_rules.proofs.Dues.{due_grows}
use Rattle.log_rules.proofs.due_laws.reports_stay_due.Goals as goal

pub returns : goal.returns
returns c = due_grows
