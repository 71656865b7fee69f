use Rattle.log_rules.proofs.Rising.{all_kept}
use Rattle.log_rules.proofs.due_laws.no_counter_falls_in_reported_logs.Goals as goal

pub returns : goal.returns
returns c = all_kept
